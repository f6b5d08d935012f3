-- The letters of names: the first letter of each word, found character by character, and letters are plain names.
use Rattle.std.proofs.Common.{◌≡◌, ℕ, zero, suc, ◌<◌, ◌&&◌, ◌||◌, Bool, true, false, cond, not, List, [], ◌∷◌, ◌++◌, map, take, refl, sym, ap, ◌∙◌, arith, append_assoc, append-nil}
use Rattle.std.specs.Prelude.{chars, encode_utf8, encode_utf8_all, filter}
use Rattle.std.specs.Char.{is_ascii_alphabetic, is_ascii_digit, is_ascii_lowercase, is_whitespace, to_ascii_lowercase}
use Rattle.std.specs.List.{flat_map, list_all, list_any, onto_first, slice_split}
use Rattle.std.specs.Str.{trim}
use Rattle.std.proofs.lemmas.Bool.{and_parts}
use Rattle.std.proofs.lemmas.Bool.Decides.{nat_tests}
use Rattle.std.proofs.lemmas.List.Folds.{list_all-append}
use Rattle.std.proofs.lemmas.Str.{encode_ascii}
use Rattle.edit_strings.specs.Collected.{first_letters, initials, letters_or_s, name_letters}
use Rattle.edit_strings.specs.Collecting.{is_plain_byte, is_plain_name, letter_at, met_after}

-- ---- letters are in lowercase

lower_letter : (c : ℕ) → is_ascii_alphabetic c ≡ true → (to_ascii_lowercase c < 128) × (is_ascii_lowercase (to_ascii_lowercase c) ≡ true)
lower_letter c is = (grind (arith, nat_tests), grind (arith, nat_tests))

letters_lowercase : (count : ℕ) (cs : List ℕ) → list_all is_ascii_lowercase (first_letters count cs) ≡ true
letters_lowercase zero cs = refl
letters_lowercase (suc count) [] = refl
letters_lowercase (suc count) (c ∷ cs) = by_case (is_ascii_alphabetic c) refl (letters_lowercase count cs)
    (letters_lowercase (suc count) cs)
  where
    by_case : (b : Bool) → is_ascii_alphabetic c ≡ b
        → list_all is_ascii_lowercase (first_letters count cs) ≡ true
        → list_all is_ascii_lowercase (first_letters (suc count) cs) ≡ true
        → list_all is_ascii_lowercase
        (encode_utf8_all
        (map to_ascii_lowercase
        (take (suc count) (cond b (c ∷ filter is_ascii_alphabetic cs) (filter is_ascii_alphabetic cs)))))
        ≡ true
    by_case false is shorter same = same
    by_case true is shorter same =
        let letter = lower_letter c is in
        ap (λ bs. list_all is_ascii_lowercase (bs ++ first_letters count cs)) (encode_ascii (to_ascii_lowercase c) letter.0)
        ∙ ap (λ b. b && list_all is_ascii_lowercase (first_letters count cs)) letter.1 ∙ shorter

initials_lowercase : (words : List (List ℕ)) → list_all is_ascii_lowercase (flat_map (first_letters 1) words) ≡ true
initials_lowercase [] = refl
initials_lowercase (word ∷ words) =
    list_all-append is_ascii_lowercase (first_letters 1 word) (flat_map (first_letters 1) words)
    ∙ ap (λ b. b && list_all is_ascii_lowercase (flat_map (first_letters 1) words)) (letters_lowercase 1 word)
    ∙ initials_lowercase words

lowercase_plain : (bs : List ℕ) → list_all is_ascii_lowercase bs ≡ true → list_all is_plain_byte bs ≡ true
lowercase_plain [] all = refl
lowercase_plain (b ∷ bs) all =
    let both = and_parts (is_ascii_lowercase b) (list_all is_ascii_lowercase bs) all in
    ap (λ y. (y || is_ascii_digit b) && list_all is_plain_byte bs) both.0 ∙ lowercase_plain bs both.1

or_s_plain : (bs : List ℕ) → list_all is_ascii_lowercase bs ≡ true → is_plain_name (letters_or_s bs) ≡ true
or_s_plain [] all = refl
or_s_plain (b ∷ bs) all =
    let both = and_parts (is_ascii_lowercase b) (list_all is_ascii_lowercase bs) all in
    ap (λ y. y && list_all is_plain_byte bs) both.0 ∙ lowercase_plain bs both.1

-- the start of each name is a plain name
pub base_plain : (text : List ℕ) → is_plain_name (letters_or_s (name_letters text)) ≡ true
base_plain text = or_s_plain (name_letters text) (by_case (list_any is_whitespace (chars (trim text))))
  where
    by_case : (b : Bool) → list_all is_ascii_lowercase (cond b (initials text) (first_letters 8 (chars text))) ≡ true
    by_case true = initials_lowercase (slice_split is_whitespace (chars text))
    by_case false = letters_lowercase 8 (chars text)

-- ---- the first letter of each word, character by character

-- whether the last word of some characters has had its first letter
pub met_in : Bool → List ℕ → Bool
met_in met [] = met
met_in met (c ∷ cs) = met_in (met_after met c) cs

-- the first letters of words in some characters
pub letters_in : Bool → List ℕ → List ℕ
letters_in met [] = []
letters_in met (c ∷ cs) = letter_at met c ++ letters_in (met_after met c) cs

pub no_letters : letters_in false [] ≡ []
unfolding letters_in
no_letters = refl

pub none_met : met_in false [] ≡ false
unfolding met_in
none_met = refl

pub met_push : (met : Bool) (cs : List ℕ) (c : ℕ) → met_in met (cs ++ c ∷ []) ≡ met_after (met_in met cs) c
unfolding met_in
met_push met [] c = refl
met_push met (d ∷ cs) c = met_push (met_after met d) cs c

pub letters_push : (met : Bool) (cs : List ℕ) (c : ℕ) → letters_in met (cs ++ c ∷ []) ≡ letters_in met cs ++ letter_at (met_in met cs) c
unfolding letters_in met_in
letters_push met [] c = append-nil (letter_at met c)
letters_push met (d ∷ cs) c =
    ap (λ l. letter_at met d ++ l) (letters_push (met_after met d) cs c)
    ∙ sym (append_assoc (letter_at met d) (letters_in (met_after met d) cs) (letter_at (met_in (met_after met d) cs) c))

-- the first letters of words, of which the first may have had its letter
words_after : Bool → List (List ℕ) → List ℕ
words_after met [] = []
words_after met (word ∷ words) = cond met [] (first_letters 1 word) ++ flat_map (first_letters 1) words

white_no_letter : (c : ℕ) → is_whitespace c ≡ true → is_ascii_alphabetic c ≡ false
white_no_letter c is = grind (arith, nat_tests)

-- a character of a word adds its letter to the first letters of words, if it is the first letter of the word
word_char : (met alphabetic : Bool) (c : ℕ) (words : List (List ℕ)) → is_ascii_alphabetic c ≡ alphabetic
    → cond (not met && alphabetic) (encode_utf8 (to_ascii_lowercase c)) [] ++ words_after (met || alphabetic) words
    ≡ words_after met (onto_first c words)
unfolding words_after
word_char true alphabetic c [] is = refl
word_char true alphabetic c (word ∷ words) is = refl
word_char false true c [] is =
    let one : encode_utf8 (to_ascii_lowercase c) ++ [] ≡ first_letters 1 (c ∷ []) =
    sym (ap (λ b. encode_utf8_all (map to_ascii_lowercase (take 1 (cond b (c ∷ []) [])))) is) in
    one ∙ sym (append-nil (first_letters 1 (c ∷ [])))
word_char false true c (word ∷ words) is =
    let one : encode_utf8 (to_ascii_lowercase c) ++ [] ≡ first_letters 1 (c ∷ word) =
    sym
    (ap
    (λ b.
    encode_utf8_all
    (map to_ascii_lowercase (take 1 (cond b (c ∷ filter is_ascii_alphabetic word) (filter is_ascii_alphabetic word)))))
    is) in
    ap (λ l. l ++ flat_map (first_letters 1) words) (sym (append-nil (encode_utf8 (to_ascii_lowercase c))) ∙ one)
word_char false false c [] is =
    let none : first_letters 1 (c ∷ []) ≡ [] = ap (λ b. encode_utf8_all (map to_ascii_lowercase (take 1 (cond b (c ∷ []) [])))) is in
    sym (append-nil (first_letters 1 (c ∷ [])) ∙ none)
word_char false false c (word ∷ words) is =
    let same : first_letters 1 word ≡ first_letters 1 (c ∷ word) =
    sym
    (ap
    (λ b.
    encode_utf8_all
    (map to_ascii_lowercase (take 1 (cond b (c ∷ filter is_ascii_alphabetic word) (filter is_ascii_alphabetic word)))))
    is) in
    ap (λ l. l ++ flat_map (first_letters 1) words) same

-- before a word, the letters after are the first letters of all words
letters_at_start : (words : List (List ℕ)) → words_after false words ≡ flat_map (first_letters 1) words
unfolding words_after
letters_at_start [] = refl
letters_at_start (word ∷ words) = refl

letters_words : (met : Bool) (cs : List ℕ) → letters_in met cs ≡ words_after met (slice_split is_whitespace cs)
unfolding letters_in words_after
letters_words met [] = by_case met
  where
    by_case : (b : Bool) → [] ≡ cond b [] (first_letters 1 []) ++ []
    by_case true = refl
    by_case false = refl
letters_words met (c ∷ cs) =
    by_case (is_whitespace c) refl (letters_words false cs) (letters_words (met || is_ascii_alphabetic c) cs)
  where
    by_case : (b : Bool) → is_whitespace c ≡ b → letters_in false cs ≡ words_after false (slice_split is_whitespace cs)
        → letters_in (met || is_ascii_alphabetic c) cs
        ≡ words_after (met || is_ascii_alphabetic c) (slice_split is_whitespace cs)
        → cond (not met && is_ascii_alphabetic c) (encode_utf8 (to_ascii_lowercase c)) []
        ++ letters_in (not b && (met || is_ascii_alphabetic c)) cs
        ≡ words_after met (cond b ([] ∷ slice_split is_whitespace cs) (onto_first c (slice_split is_whitespace cs)))
    by_case true white others same =
        let none : letter_at met c ≡ [] =
        ap (λ a. cond (not met && a) (encode_utf8 (to_ascii_lowercase c)) []) (white_no_letter c white) ∙ no_letter met in
        ap (λ l. l ++ letters_in false cs) none ∙ others ∙ letters_at_start (slice_split is_whitespace cs)
        ∙ ap (λ l. l ++ flat_map (first_letters 1) (slice_split is_whitespace cs)) (empty met)
      where
        no_letter : (m : Bool) → cond (not m && false) (encode_utf8 (to_ascii_lowercase c)) [] ≡ []
        no_letter true = refl
        no_letter false = refl

        empty : (m : Bool) → [] ≡ cond m [] (first_letters 1 [])
        empty true = refl
        empty false = refl
    by_case false dark others same =
        ap (λ l. cond (not met && is_ascii_alphabetic c) (encode_utf8 (to_ascii_lowercase c)) [] ++ l) same
        ∙ word_char met (is_ascii_alphabetic c) c (slice_split is_whitespace cs) refl

-- the first letters of words, found character by character, are the initials
pub initials_are : (text : List ℕ) → letters_in false (chars text) ≡ initials text
unfolding words_after
initials_are text = letters_words false (chars text) ∙ letters_at_start (slice_split is_whitespace (chars text))
