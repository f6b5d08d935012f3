-- Facts about the word `and` in a text.
use Rattle.std.proofs.Common.{◌≡◌, ℕ, ◌+◌, ◌-◌, ◌<◌, Bool, true, false, ◌&&◌, cond, List, [], ◌∷◌, ◌++◌, length, get_or, take, drop, refl, sym, ap, ◌∙◌, arith, append_assoc, nat_eq, length-drop, ⊎_elim}
use Rattle.std.specs.Prelude.{◌==◌, codes, encode_utf8_all}
use lib.Utf8.{encode}
use Rattle.std.specs.Char.{is_whitespace}
use Rattle.std.specs.Str.{IsUtf8, chars}
use Rattle.std.proofs.lemmas.Bool.{and_parts, cond-true, cond-false, eqb-true, false_from_ne_true, false≢true, ne_eqb, eq-eqb, cases_eq}
use Rattle.std.proofs.lemmas.List.{append-nil, append_cancel_left, take_at, take-append-drop, drop_more}
use Rattle.std.proofs.lemmas.Str.{encodes-chars, chars-nil}
use Rattle.bib_chunks.specs.declared.chunk.Chunk.{Chunk}
use Rattle.bib_text.specs.declared.spanned.Spanned.{Spanned}
use Rattle.bib_text.specs.Places.{place, CharAt}
use Rattle.bib_chunks.specs.Cuts.{begins_with_space, is_and, prepend, between_ands, trimmed_chunk, trimmed_chunks}
use Rattle.bib_chunks.specs.Cutting.{IsAnd, NoAnd, IsFirstAnd}
use Rattle.bib_text.proofs.TextFacts.{MovesPast, passed_char, passed_append, chars_past, chars_whole}

-- whether the word is at the start of these characters, with white space after it and, by the flag, before it
abbrev pub word_here : Bool → List ℕ → Bool
word_here space (a ∷ n ∷ d ∷ rest) = space && is_and a n d && begins_with_space rest
word_here space rest = false

-- if the word is here, the characters are its letters and then white space
pub word_letters : (space : Bool) (cs : List ℕ) → word_here space cs ≡ true
    → (rest : List ℕ) × (cs ≡ 97 ∷ 110 ∷ 100 ∷ rest) × (begins_with_space rest ≡ true)
word_letters space [] here = absurd (false≢true here)
word_letters space (a ∷ []) here = absurd (false≢true here)
word_letters space (a ∷ n ∷ []) here = absurd (false≢true here)
word_letters space (a ∷ n ∷ d ∷ rest) here =
    let outer = and_parts (space && is_and a n d) (begins_with_space rest) here in
    let word = (and_parts space (is_and a n d) outer.0).1 in
    let last = and_parts (a == 97 && n == 110) (d == 100) word in
    let leading_run = and_parts (a == 97) (n == 110) last.0 in (
      rest,
      ap (λ x. x ∷ n ∷ d ∷ rest) (eqb-true a 97 leading_run.0)
          ∙ ap (λ x. 97 ∷ x ∷ d ∷ rest) (eqb-true n 110 leading_run.1)
          ∙ ap (λ x. 97 ∷ 110 ∷ x ∷ rest) (eqb-true d 100 last.1),
      outer.1,
    )

and_bytes : (bs : List ℕ) → codes "and" ++ bs ≡ encode_utf8_all (97 ∷ 110 ∷ 100 ∷ []) ++ bs
unfolding encode
and_bytes bs = refl

-- the bytes of the word `and` and of the characters after it
and_bytes_all : (cs : List ℕ) → codes "and" ++ encode_utf8_all cs ≡ encode_utf8_all (97 ∷ 110 ∷ 100 ∷ cs)
unfolding encode
and_bytes_all cs = refl

-- The characters of a UTF-8 text that begins with `and` are its letters and the characters after it. The text after it is UTF-8.
and_chars : (text following : List ℕ) → IsUtf8 text → text ≡ codes "and" ++ following
    → (chars text ≡ 97 ∷ 110 ∷ 100 ∷ chars following) × IsUtf8 following
and_chars text following utf8 word = chars_past (97 ∷ 110 ∷ 100 ∷ []) text following utf8 (word ∙ and_bytes following)

-- no word is at the start of a text without white space before it
pub never : (cs : List ℕ) → word_here false cs ≡ false
never [] = refl
never (a ∷ []) = refl
never (a ∷ n ∷ []) = refl
never (a ∷ n ∷ d ∷ rest) = refl

-- without white space before them, characters don't begin with the word
pub not_spaced : (space : Bool) (cs : List ℕ) → space ≡ false → word_here space cs ≡ false
not_spaced space cs none = rw none (never cs)

-- a UTF-8 text that doesn't begin with the word `and` and white space doesn't pass `word_here`
pub no_word : (space : Bool) (bs : List ℕ) → IsUtf8 bs → NoAnd bs → word_here space (chars bs) ≡ false
no_word space bs utf8 no_and = false_from_ne_true (word_here space (chars bs)) (λ here.
    let (rest, letters, spaced) = word_letters space (chars bs) here in
    let word : bs ≡ codes "and" ++ encode_utf8_all rest =
    sym (encodes-chars bs utf8) ∙ ap encode_utf8_all letters ∙ sym (and_bytes_all rest) in
    let same : chars (encode_utf8_all rest) ≡ rest =
    append_cancel_left (97 ∷ 110 ∷ 100 ∷ []) _ _ (sym (and_chars bs (encode_utf8_all rest) utf8 word).0 ∙ letters) in
    no_and (encode_utf8_all rest) (record { word = word; space = ap begins_with_space same ∙ spaced }))

-- a character at which no word begins belongs to the first text
pub between_other : (space : Bool) (c : ℕ) (cs : List ℕ) → word_here space (c ∷ cs) ≡ false
    → between_ands space (c ∷ cs) ≡ prepend (c ∷ []) (between_ands (is_whitespace c) cs)
between_other space c [] here = refl
between_other space c (n ∷ []) here = refl
between_other space c (n ∷ d ∷ rest) here = cond-false (space && is_and c n d && begins_with_space rest) _ _ here

-- a word after white space ends the first text, which is empty
between_word : (rest : List ℕ) → begins_with_space rest ≡ true → between_ands true (97 ∷ 110 ∷ 100 ∷ rest) ≡ [] ∷ between_ands false rest
between_word rest spaced = cond-true (begins_with_space rest) _ _ spaced

prepend_prepend : (xs ys : List ℕ) (texts : List (List ℕ)) → prepend xs (prepend ys texts) ≡ prepend (xs ++ ys) texts
prepend_prepend xs ys [] = refl
prepend_prepend xs ys (text ∷ texts) = ap (λ t. t ∷ texts) (sym (append_assoc xs ys text))

cond_some : (here : Bool) (cut : List (List ℕ)) (a : ℕ) (texts : List (List ℕ))
    → (text : List ℕ) × (more : List (List ℕ)) × (texts ≡ text ∷ more)
    → (text : List ℕ) × (more : List (List ℕ)) × (cond here ([] ∷ cut) (prepend (a ∷ []) texts) ≡ text ∷ more)
cond_some true cut a texts some = ([], cut, refl)
cond_some false cut a texts some = ((a ∷ []) ++ some.0, some.1, ap (prepend (a ∷ [])) some.2)

-- there is at least one text between words `and`
pub ands_some : (space : Bool) (cs : List ℕ) → (text : List ℕ) × (texts : List (List ℕ)) × (between_ands space cs ≡ text ∷ texts)
ands_some space [] = ([], [], refl)
ands_some space (a ∷ []) = (_, _, refl)
ands_some space (a ∷ n ∷ []) = (_, _, refl)
ands_some space (a ∷ n ∷ d ∷ rest) =
    let more = ands_some (is_whitespace a) (n ∷ d ∷ rest) in
    cond_some (space && is_and a n d && begins_with_space rest) (between_ands false rest) a
    (between_ands (is_whitespace a) (n ∷ d ∷ rest)) more

-- prepending no characters to the texts between words changes nothing
prepend_none : (space : Bool) (cs : List ℕ) → prepend [] (between_ands space cs) ≡ between_ands space cs
prepend_none space cs = let some = ands_some space cs in rw some.2 refl

-- no word `and` with white space right before and after it begins in `cs`, the characters before the byte offset `at`;
-- `space` is the flag of `between_ands` for the rest
pub record IsSearchedTo (text : List ℕ) (at : ℕ) (space : Bool) : Type 0 where
  pub cs : List ℕ
  pub passed : MovesPast (place text 0) cs (place text at)
  pub texts : between_ands false (chars text) ≡ prepend cs (between_ands space (chars (drop at text)))

-- at the start of a UTF-8 text no character was passed
pub searched_none : (text : List ℕ) → IsUtf8 text → IsSearchedTo text 0 false
searched_none text utf8 = record {
  cs = [];
  passed = record { same = refl; here = refl; next = refl; spelt = refl; utf8 = utf8 };
  texts = sym (prepend_none false (chars text));
}

-- the search goes on after a character at which no word `and` between white space begins
pub searched_char : (text : List ℕ) (at next c : ℕ) (space : Bool) → IsSearchedTo text at space
    → CharAt (place text at) c (place text next) → word_here space (chars (drop at text)) ≡ false
    → IsSearchedTo text next (is_whitespace c)
searched_char text at next c space so_far char none =
    let one : MovesPast (place text at) (c ∷ []) (place text next) = passed_char char so_far.passed.utf8 in
    let here : word_here space (c ∷ chars (drop next text)) ≡ false = rw one.spelt at none in
    record {
      cs = so_far.cs ++ c ∷ [];
      passed = passed_append so_far.passed one;
      texts =
          so_far.texts ∙ ap (λ xs. prepend so_far.cs (between_ands space xs)) one.spelt
          ∙ ap (prepend so_far.cs) (between_other space c (chars (drop next text)) here)
          ∙ prepend_prepend so_far.cs (c ∷ []) _;
    }

-- the text before a byte offset is the encoding of the passed characters
before_place : (text : List ℕ) (at : ℕ) (cs : List ℕ) → MovesPast (place text 0) cs (place text at) → take at text ≡ encode_utf8_all cs
before_place text at cs passed =
    let next : at ≡ 0 + length (encode_utf8_all cs) = passed.next in
    ap (take at) passed.here ∙ take_at (encode_utf8_all cs) (drop at text) at (omega arith)

-- after a search up to white space right before an offset, the word `and` at the offset is the first one, if the text before it is UTF-8
pub searched_word : (text : List ℕ) (at : ℕ) (before following : List ℕ) → IsSearchedTo text at true → before ≡ take at text
    → IsUtf8 before → IsAnd (drop at text) following → IsFirstAnd text before following
searched_word text at before following so_far leading_run prefix_utf8 word =
    let letters = and_chars (drop at text) following so_far.passed.utf8 word.word in
    let spells : before ≡ encode_utf8_all so_far.cs = leading_run ∙ before_place text at so_far.cs so_far.passed in
    let chars_before : chars before ≡ so_far.cs = chars_whole so_far.cs before prefix_utf8 spells in
    record {
      word = sym (take-append-drop at text) ∙ ap (λ xs. xs ++ drop at text) (sym leading_run) ∙ ap (λ xs. before ++ xs) word.word;
      cut =
          so_far.texts ∙ ap (λ xs. prepend so_far.cs (between_ands true xs)) letters.0
          ∙ ap (prepend so_far.cs) (between_word (chars following) word.space)
          ∙ ap (λ xs. xs ∷ between_ands false (chars following)) (append-nil so_far.cs ∙ sym chars_before);
      spells = sym (encodes-chars before prefix_utf8);
      utf8 = letters.1;
    }

-- a search that reached the end of the text has found no word `and` between white space
pub searched_all : (text : List ℕ) (at : ℕ) (space : Bool) → IsSearchedTo text at space → drop at text ≡ []
    → between_ands false (chars text) ≡ chars text ∷ []
searched_all text at space so_far nothing =
    let left : chars (drop at text) ≡ [] = ap chars nothing ∙ chars-nil in
    so_far.texts ∙ ap (λ xs. prepend so_far.cs (between_ands space xs)) left
    ∙ ap (λ xs. (so_far.cs ++ xs) ∷ []) (sym left) ∙ ap (λ xs. xs ∷ []) (sym so_far.passed.spelt)

-- the first of trimmed chunks is trimmed at its end exactly if no chunk follows it
trimmed_cons : (first last : Bool) (x : Spanned Chunk) (rest : List (Spanned Chunk)) → last ≡ nat_eq (length rest) 0
    → trimmed_chunks first (x ∷ rest) ≡ trimmed_chunk first last x.v x.span ∷ trimmed_chunks false rest
trimmed_cons first last x [] is_last = ap (λ b. trimmed_chunk first b x.v x.span ∷ []) (sym is_last)
trimmed_cons first last x (next ∷ more) is_last =
    ap (λ b. trimmed_chunk first b x.v x.span ∷ trimmed_chunks false (next ∷ more))
    (sym (is_last ∙ ne_eqb _ 0 (λ none. omega (arith, none))))

same_test : (m n : ℕ) → m ≡ n + 1 → nat_eq m 1 ≡ nat_eq n 0
same_test m n more = ⊎_elim
    (λ none. eq-eqb m 1 (omega arith) ∙ sym (eq-eqb n 0 none))
    (λ some. ne_eqb m 1 (λ one. some (omega (arith, one))) ∙ sym (ne_eqb n 0 some))
    (cases_eq n 0)

-- a step of the loop: a trimmed chunk is added, the last one exactly if no chunk follows
pub trimmed_step : (first last : Bool) (x : Spanned Chunk) (chunks : List (Spanned Chunk)) (i : ℕ) → i < length chunks
    → x ≡ get_or chunks i x → last ≡ nat_eq (length chunks - i) 1
    → trimmed_chunks first (drop i chunks) ≡ trimmed_chunk first last x.v x.span ∷ trimmed_chunks false (drop (i + 1) chunks)
trimmed_step first last x chunks i within is is_last =
    let split : drop i chunks ≡ x ∷ drop (i + 1) chunks = drop_more chunks i x within ∙ ap (λ y. y ∷ drop (i + 1) chunks) (sym is) in
    let left : length (drop (i + 1) chunks) ≡ length chunks - (i + 1) = length-drop (i + 1) chunks in
    ap (trimmed_chunks first) split
    ∙ trimmed_cons first last x (drop (i + 1) chunks)
    (is_last ∙ same_test (length chunks - i) (length (drop (i + 1) chunks)) (omega arith))
