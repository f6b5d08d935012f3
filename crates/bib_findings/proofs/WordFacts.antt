-- The words of a list of characters, written one after another.
use Rattle.std.proofs.Common.{◌≡◌, ℕ, Bool, true, false, not, List, [], ◌∷◌, ◌++◌, ◌+◌, ◌<◌, ◌≤◌, ◌==◌, ◌&&◌, length, get_or, drop, refl, sym, ap, ◌∙◌, append_assoc, append-nil, length-append, arith, cond}
use Rattle.std.specs.Prelude.{IsUtf8, bytes_eq, codes, encode_utf8, encode_utf8_all}
use Rattle.std.specs.Bool.{one_answer}
use Rattle.std.specs.Char.{is_whitespace}
use Rattle.std.specs.List.{filter, onto_first, slice_split, take_while}
use Rattle.std.proofs.lemmas.List.{drop_all}
use Rattle.std.proofs.lemmas.List.Sums.{take_while-cons}
use Rattle.std.proofs.lemmas.List.Splits.{slice_split-cons_yes, slice_split-cons_no}
use Rattle.std.proofs.lemmas.Bool.Decides.{nat_tests}
use Rattle.std.proofs.lemmas.Slice.Eq.{bytes_eq-Decides}
use Rattle.std.proofs.lemmas.Str.{encodes-append, length-encode, len_utf8_bounds}
use Rattle.bib_text.proofs.TextFacts.{chars_whole}
use Rattle.bib_text.proofs.ListFacts.{drop_is}
use Rattle.bib_chunks.specs.Cuts.{prepend}
use Rattle.bib_findings.specs.Identities.{is_brace, spaced_words}
use Rattle.bib_findings.specs.Words.{ends_before, spaced_word, words_text}

-- the characters without braces
abbrev pub kept : List ℕ → List ℕ
kept = filter (λ c. not (is_brace c))

-- the parts that aren't empty, which are the words
abbrev pub words_among : List (List ℕ) → List (List ℕ)
words_among = filter (λ word. not (length word == 0))

-- the words before the one at which they end
abbrev pub words_before : Bool → List (List ℕ) → List (List ℕ)
words_before is_first = take_while (λ word. not (ends_before is_first word))

-- the text of the words in the remaining characters; `word` contains the characters that the first word already has
abbrev pub left_text : Bool → List ℕ → List ℕ → List ℕ
left_text is_first word rest = spaced_words (words_before is_first (words_among (prepend word (slice_split is_whitespace rest))))

after_none : (parts : List (List ℕ)) → (first : List ℕ) (rest : List (List ℕ)) → parts ≡ first ∷ rest → prepend [] parts ≡ parts
after_none [] first rest is = absurd (let clash : [] ≡ first ∷ rest = is in cc)
after_none (part ∷ parts) first rest is = refl

after_more : (word : List ℕ) (c : ℕ) (parts : List (List ℕ)) → prepend word (onto_first c parts) ≡ prepend (word ++ c ∷ []) parts
after_more word c [] = refl
after_more word c (part ∷ parts) = ap (λ first. first ∷ parts) (sym (append_assoc word (c ∷ []) part))

split_some : (rest : List ℕ) → (first : List ℕ) × (parts : List (List ℕ)) × (slice_split is_whitespace rest ≡ first ∷ parts)
split_some [] = ([], [], refl)
split_some (c ∷ rest) =
    elim (is_whitespace c) as
    (λ is.
    (first : List ℕ) × (parts : List (List ℕ))
    ×
    (cond is ([] ∷ slice_split is_whitespace rest) (onto_first c (slice_split is_whitespace rest))
    ≡ first ∷ parts))
    [ true ↦ ([], slice_split is_whitespace rest, refl) | false ↦ onto_some c (slice_split is_whitespace rest) ]
  where
    onto_some : (c : ℕ) (parts : List (List ℕ)) → (first : List ℕ) × (more : List (List ℕ)) × (onto_first c parts ≡ first ∷ more)
    onto_some c [] = (c ∷ [], [], refl)
    onto_some c (part ∷ parts) = (c ∷ part, parts, refl)

-- if no word is begun, the text of the remaining characters is that of their words
pub none_begun : (is_first : Bool) (characters : List ℕ) → left_text is_first [] characters ≡ words_text is_first characters
none_begun is_first characters =
    let some = split_some characters in
    ap (λ parts. spaced_words (words_before is_first (words_among parts)))
    (after_none (slice_split is_whitespace characters) some.0 some.1 some.2)

-- a character that isn't white space is appended to the current word
pub goes_on : (is_first : Bool) (word : List ℕ) (c : ℕ) (rest : List ℕ) → is_whitespace c ≡ false
    → left_text is_first word (c ∷ rest) ≡ left_text is_first (word ++ c ∷ []) rest
goes_on is_first word c rest isnt =
    ap (λ parts. spaced_words (words_before is_first (words_among (prepend word parts)))) (slice_split-cons_no is_whitespace c rest isnt)
    ∙ ap (λ parts. spaced_words (words_before is_first (words_among parts))) (after_more word c (slice_split is_whitespace rest))

-- the state after `count` characters: the result is `text`, followed by the text of the remaining characters after `word`
pub record AreWordsLeft (is_first : Bool) (characters : List ℕ) (count : ℕ) (text word : List ℕ) : Type 0 where
  pub begun : List ℕ
  pub spelt : word ≡ encode_utf8_all begun
  pub left : words_text is_first (kept characters) ≡ text ++ left_text is_first begun (kept (drop count characters))

pub words_begin : (is_first : Bool) (characters : List ℕ) → AreWordsLeft is_first characters 0 [] []
words_begin is_first characters = record {
  begun = [];
  spelt = refl;
  left = sym (none_begun is_first (kept characters));
}

kept_next : (characters : List ℕ) (count c : ℕ) → count < length characters → c ≡ get_or characters count c
    → kept (drop count characters) ≡ cond (not (is_brace c)) (c ∷ kept (drop (count + 1) characters)) (kept (drop (count + 1) characters))
kept_next characters count c within is = ap kept (drop_is characters count c within is)

-- the words end before a word, given by its bytes, exactly if they end before it, given by its characters
ends_same : (is_first : Bool) (word begun : List ℕ) → IsUtf8 word → word ≡ encode_utf8_all begun
    → ends_before is_first word ≡ ends_before is_first begun
unfolding lib.Utf8.encode
ends_same is_first word begun utf8 spelt =
    ap (λ b. is_first && b) (one_answer (bytes_eq word (codes "and")) (bytes_eq begun (codes "and")) (bytes_eq-Decides word (codes "and")) (
      (λ is. let word_is : word ≡ codes "and" = spelt ∙ ap encode_utf8_all ((bytes_eq-Decides begun (codes "and")).0 is) in word_is),
      (λ is. (bytes_eq-Decides begun (codes "and")).1 (sym (chars_whole begun word utf8 spelt) ∙ chars_whole (codes "and") word utf8 is)),
    ))

-- a brace changes neither the text nor the current word
pub words_brace : (is_first : Bool) (characters : List ℕ) (count c : ℕ) (text word : List ℕ)
    → AreWordsLeft is_first characters count text word → count < length characters → c ≡ get_or characters count c
    → is_brace c ≡ true → AreWordsLeft is_first characters (count + 1) text word
words_brace is_first characters count c text word before within is brace = record {
  begun = before.begun;
  spelt = before.spelt;
  left =
      before.left
      ∙ ap (λ rest. text ++ left_text is_first before.begun rest)
      (kept_next characters count c within is
      ∙ ap (λ b. cond (not b) (c ∷ kept (drop (count + 1) characters)) (kept (drop (count + 1) characters)))
      brace);
}

left_next : (is_first : Bool) (characters : List ℕ) (count c : ℕ) (text word : List ℕ)
    → (before : AreWordsLeft is_first characters count text word) → count < length characters
    → c ≡ get_or characters count c
    → is_brace c ≡ false
    → words_text is_first (kept characters)
    ≡ text ++ left_text is_first before.begun (c ∷ kept (drop (count + 1) characters))
left_next is_first characters count c text word before within is none =
    before.left
    ∙ ap (λ rest. text ++ left_text is_first before.begun rest)
    (kept_next characters count c within is
    ∙ ap (λ b. cond (not b) (c ∷ kept (drop (count + 1) characters)) (kept (drop (count + 1) characters)))
    none)

-- if the next character is neither a brace nor white space, it is appended to the current word
pub words_letter : (is_first : Bool) (characters : List ℕ) (count c : ℕ) (text word more : List ℕ)
    → AreWordsLeft is_first characters count text word → count < length characters → c ≡ get_or characters count c
    → is_brace c ≡ false → is_whitespace c ≡ false → more ≡ word ++ encode_utf8 c → AreWordsLeft is_first characters (count + 1) text more
words_letter is_first characters count c text word more before within is none isnt next = record {
  begun = before.begun ++ c ∷ [];
  spelt =
      next ∙ ap (λ l. l ++ encode_utf8 c) before.spelt
      ∙ ap (λ l. encode_utf8_all before.begun ++ l) (sym (append-nil (encode_utf8 c)))
      ∙ sym (encodes-append before.begun (c ∷ []));
  left =
      left_next is_first characters count c text word before within is none
      ∙ ap (λ l. text ++ l) (goes_on is_first before.begun c (kept (drop (count + 1) characters)) isnt);
}

some_word : (c : ℕ) (begun : List ℕ) (parts : List (List ℕ)) → words_among ((c ∷ begun) ∷ parts) ≡ (c ∷ begun) ∷ words_among parts
some_word c begun parts =
    let some : (length (c ∷ begun) == 0) ≡ false = grind (arith, nat_tests) in
    ap (λ b. cond (not b) ((c ∷ begun) ∷ words_among parts) (words_among parts)) some

not_empty : (word : List ℕ) (c : ℕ) (begun : List ℕ) → word ≡ encode_utf8_all (c ∷ begun) → (length word == 0) ≡ false
not_empty word c begun spelt =
    let long : length word ≡ length (encode_utf8 c) + length (encode_utf8_all begun) =
    ap length spelt ∙ length-append (encode_utf8 c) (encode_utf8_all begun) in
    grind (arith, nat_tests, long, length-encode c, len_utf8_bounds c)

-- if the words don't end before a word, the text of it and the parts after it is that of the word, followed by that of the parts
word_written : (is_first : Bool) (word begun : List ℕ) (parts : List (List ℕ)) → word ≡ encode_utf8_all begun
    → ends_before is_first begun ≡ false
    → spaced_words (words_before is_first (words_among (begun ∷ parts)))
    ≡ spaced_word word ++ spaced_words (words_before is_first (words_among parts))
word_written is_first word [] parts spelt goes =
    ap (λ w. spaced_word w ++ spaced_words (words_before is_first (words_among parts))) (sym spelt)
word_written is_first word (c ∷ begun) parts spelt goes =
    let some : (length word == 0) ≡ false = not_empty word c begun spelt in
    ap (λ l. spaced_words (words_before is_first l)) (some_word c begun parts)
    ∙ ap spaced_words
    (take_while-cons (λ w. not (ends_before is_first w)) (c ∷ begun) (words_among parts)
    ∙ ap (λ b. cond (not b) ((c ∷ begun) ∷ words_before is_first (words_among parts)) []) goes)
    ∙ ap (λ w. (w ++ codes " ") ++ spaced_words (words_before is_first (words_among parts))) (sym spelt)
    ∙ ap (λ b. cond b [] (word ++ codes " ") ++ spaced_words (words_before is_first (words_among parts))) (sym some)

-- if the words end before this one, it and the parts after it have no text
words_stopped : (is_first : Bool) (begun : List ℕ) (parts : List (List ℕ)) → ends_before is_first begun ≡ true
    → spaced_words (words_before is_first (words_among (begun ∷ parts))) ≡ []
words_stopped false begun parts stops = absurd (let clash : false ≡ true = stops in cc)
words_stopped true [] parts stops = absurd (let clash : false ≡ true = stops in cc)
words_stopped true (c ∷ begun) parts stops =
    ap (λ l. spaced_words (words_before true l)) (some_word c begun parts)
    ∙ ap spaced_words
    (take_while-cons (λ w. not (ends_before true w)) (c ∷ begun) (words_among parts)
    ∙ ap (λ b. cond (not b) ((c ∷ begun) ∷ words_before true (words_among parts)) []) stops)

-- at white space, if the words don't end before the current word, this word is appended to the text, unless it is empty
pub words_space : (is_first : Bool) (characters : List ℕ) (count c : ℕ) (text word after : List ℕ)
    → AreWordsLeft is_first characters count text word → count < length characters → c ≡ get_or characters count c
    → is_brace c ≡ false → is_whitespace c ≡ true → IsUtf8 word → ends_before is_first word ≡ false
    → after ≡ text ++ spaced_word word → AreWordsLeft is_first characters (count + 1) after []
words_space is_first characters count c text word after before within is none space utf8 goes next =
    let rest : List ℕ = kept (drop (count + 1) characters) in
    let parts : List (List ℕ) = slice_split is_whitespace rest in
    let some = split_some rest in
    record {
      begun = [];
      spelt = refl;
      left =
          left_next is_first characters count c text word before within is none
          ∙ ap (λ l. text ++ spaced_words (words_before is_first (words_among (prepend before.begun l))))
          (slice_split-cons_yes is_whitespace c rest space)
          ∙ ap (λ w. text ++ spaced_words (words_before is_first (words_among (w ∷ parts)))) (append-nil before.begun)
          ∙ ap (λ l. text ++ l)
          (word_written is_first word before.begun parts before.spelt
          (sym (ends_same is_first word before.begun utf8 before.spelt) ∙ goes))
          ∙ sym (append_assoc text (spaced_word word) (spaced_words (words_before is_first (words_among parts))))
          ∙ ap (λ l. l ++ spaced_words (words_before is_first (words_among parts))) (sym next)
          ∙ ap (λ l. after ++ spaced_words (words_before is_first (words_among l))) (sym (after_none parts some.0 some.1 some.2));
    }

-- at white space, if the words end before the current word, the text is complete
pub words_stop : (is_first : Bool) (characters : List ℕ) (count c : ℕ) (text word : List ℕ)
    → AreWordsLeft is_first characters count text word → count < length characters → c ≡ get_or characters count c
    → is_brace c ≡ false → is_whitespace c ≡ true → IsUtf8 word → ends_before is_first word ≡ true
    → text ≡ words_text is_first (kept characters)
words_stop is_first characters count c text word before within is none space utf8 stops =
    let rest : List ℕ = kept (drop (count + 1) characters) in
    sym (left_next is_first characters count c text word before within is none
    ∙ ap (λ l. text ++ spaced_words (words_before is_first (words_among (prepend before.begun l))))
    (slice_split-cons_yes is_whitespace c rest space)
    ∙ ap (λ w. text ++ spaced_words (words_before is_first (words_among (w ∷ slice_split is_whitespace rest)))) (append-nil before.begun)
    ∙ ap (λ l. text ++ l)
    (words_stopped is_first before.begun (slice_split is_whitespace rest)
    (sym (ends_same is_first word before.begun utf8 before.spelt) ∙ stops))
    ∙ append-nil text)

at_end : (is_first : Bool) (characters : List ℕ) (count : ℕ) (text word : List ℕ)
    → (before : AreWordsLeft is_first characters count text word) → count ≡ length characters
    → words_text is_first (kept characters) ≡ text ++ spaced_words (words_before is_first (words_among (before.begun ∷ [])))
at_end is_first characters count text word before all =
    before.left
    ∙ ap (λ l. text ++ left_text is_first before.begun (kept l))
    (drop_all count characters (let le : length characters ≤ count = omega (arith, all) in le))
    ∙ ap (λ w. text ++ spaced_words (words_before is_first (words_among (w ∷ [])))) (append-nil before.begun)

-- at the end of the characters, if the words don't end before the current word, the text with this word is complete
pub words_last : (is_first : Bool) (characters : List ℕ) (count : ℕ) (text word after : List ℕ)
    → AreWordsLeft is_first characters count text word → count ≡ length characters
    → IsUtf8 word → ends_before is_first word ≡ false → after ≡ text ++ spaced_word word → after ≡ words_text is_first (kept characters)
words_last is_first characters count text word after before all utf8 goes next =
    next ∙ sym (at_end is_first characters count text word before all
    ∙ ap (λ l. text ++ l)
    (word_written is_first word before.begun [] before.spelt
    (sym (ends_same is_first word before.begun utf8 before.spelt) ∙ goes) ∙ append-nil (spaced_word word)))

-- at the end of the characters, if the words end before the current word, the text is complete without it
pub words_stop_last : (is_first : Bool) (characters : List ℕ) (count : ℕ) (text word : List ℕ)
    → AreWordsLeft is_first characters count text word → count ≡ length characters
    → IsUtf8 word → ends_before is_first word ≡ true → text ≡ words_text is_first (kept characters)
words_stop_last is_first characters count text word before all utf8 stops =
    sym (at_end is_first characters count text word before all
    ∙ ap (λ l. text ++ l)
    (words_stopped is_first before.begun [] (sym (ends_same is_first word before.begun utf8 before.spelt) ∙ stops))
    ∙ append-nil text)

-- if the words of all people are wanted, no word ends them
pub all_words : (words : List (List ℕ)) → words_before false words ≡ words
all_words [] = refl
all_words (word ∷ words) = take_while-cons (λ w. not (ends_before false w)) word words ∙ ap (λ l. word ∷ l) (all_words words)

-- filtering by two tests together is filtering by one and then by the other
pub filter_both : {A : Type 0} (p q : A → Bool) (items : List A) → filter (λ a. p a && q a) items ≡ filter q (filter p items)
filter_both p q [] = refl
filter_both p q (item ∷ items) =
    elim (p item) as
    (λ b.
    cond (b && q item) (item ∷ filter (λ a. p a && q a) items) (filter (λ a. p a && q a) items)
    ≡ filter q (cond b (item ∷ filter p items) (filter p items)))
    [ true ↦ ap (λ l. cond (q item) (item ∷ l) l) (filter_both p q items) | false ↦ filter_both p q items ]
