-- Texts of kept words, as parts of a written name: each is parsed as itself, and low words before others as the prefix.
use Rattle.std.proofs.Common.{◌≡◌, ℕ, ◌+◌, ◌-◌, ◌<◌, Bool, true, false, List, [], ◌∷◌, ◌++◌, length, map, refl, sym, ap, ◌∙◌, arith, suc, cond, length-append, zero, ◌⊎◌, inl, inr}
use Rattle.std.specs.Prelude.{not, ◌&&◌, ◌||◌, ◌==◌, encode_utf8_all}
use Rattle.std.specs.List.{list_all, list_any, prefix_len}
use Rattle.std.specs.Char.{is_whitespace}
use Rattle.unicode.specs.Binary.{is_lowercase}
use Rattle.std.specs.Str.{chars, trim_start, trim_end, trim, IsAscii, skip_leading_whitespace}
use Rattle.std.proofs.lemmas.Bool.{and_parts, and_from, not-true, not_from_false, false≢true, ne_eqb, eqb-true, or_cases, and_right}
use Rattle.std.proofs.lemmas.List.{append-nil}
use Rattle.std.proofs.lemmas.Str.{chars-IsAscii, encodes-IsAscii, chars-nil}
use Rattle.bib_chunks.specs.declared.chunk.Chunk.TheVariants.{Normal}
use Rattle.bib_chunks.specs.Formatted.{flowing, formatted_chars, space_after, is_unbroken}
use Rattle.bib_chunks.proofs.FormattedFacts.{flowing_run}
use Rattle.bib_people.specs.Letters.{Letter, letters, Word, a_word, text_of_words}
use Rattle.bib_people.specs.Names.{Cuts, is_low, leading, through_last, before_comma, trimmed_text, formats_to_nothing}
use Rattle.bib_people.specs.Kept.{is_capital_letter, is_small_letter, is_name_byte, is_kept_word, name_begins, spaced}
use Rattle.bib_people.proofs.WordFacts.{letter, spelt}
use Rattle.bib_people.proofs.ByteFacts.{name_plain, all_follow, none_of, small_low, capital_not_low, skip_none, start_none, start_one, end_none}
use Rattle.bib_people.proofs.SpacedFacts.{spaced_ends, spaced_begins, spaced_all, words_at, letters_spaced, gap_of, letters_of}
use Rattle.bib_people.proofs.LineFacts.{AllWords, all_line, items_solid, items_ascii}
use Rattle.std.specs.declared.ops.Range.{Range}
use Rattle.bib_people.proofs.AndLists.{formatted_empties, empties, before_and, after_and}
use Rattle.bib_people.proofs.CommaFacts.{is_comma, stands}
use Rattle.bib_people.proofs.CutFacts.{through_none}

-- ---- the text of words

-- a byte of a name or a space
abbrev is_text_byte : ℕ → Bool
is_text_byte b = is_name_byte b || b == 32

-- such a byte is neither a comma nor a line break
text_plain : (b : ℕ) → is_text_byte b ≡ true → (not (is_comma b) && is_unbroken b) ≡ true
text_plain b text = elim (or_cases (is_name_byte b) (b == 32) text) [
  | inl name ↦ let plain = name_plain b name in
      let one = and_parts (not (is_whitespace b)) _ plain in
      let two = and_parts (not (is_comma b)) _ one.1 in
      and_from (not (is_comma b)) (is_unbroken b) two.0 (and_parts (not (b == 61)) (is_unbroken b) two.1).1
  | inr space ↦ let is : b ≡ 32 = eqb-true b 32 space in rw is refl
]

-- a text of words: an ASCII text without commas that doesn't change if it is formatted or trimmed
pub record IsText (text : List ℕ) : Type 0 where
  pub ascii : IsAscii text
  pub same : chars text ≡ text
  pub spelt : encode_utf8_all text ≡ text
  pub no_comma : list_any is_comma text ≡ false
  pub flows : flowing false text ≡ text
  pub skips : skip_leading_whitespace text ≡ text
  pub start : trim_start text ≡ text
  pub end : trim_end text ≡ text

name_text_byte : (b : ℕ) → is_name_byte b ≡ true → is_text_byte b ≡ true
name_text_byte b name = rw name refl

word_bytes : (word : List ℕ) → is_kept_word is_name_byte word ≡ true → list_all is_text_byte word ≡ true
word_bytes word kept =
    let outer = and_parts (name_begins is_name_byte word) _ kept in
    all_follow is_name_byte is_text_byte name_text_byte word (and_parts (list_all is_name_byte word) _ outer.1).0

-- kept words with single spaces between them are a text of words
pub is_text : (words : List (List ℕ)) → AllWords is_name_byte words → IsText (spaced words)
is_text words all =
    let line = all_line words all in
    let ascii : IsAscii (spaced words) = items_ascii words line in
    let solid = items_solid words line in
    let bytes =
    spaced_all is_text_byte refl words
    (all_follow (is_kept_word is_name_byte) (λ w. list_all is_text_byte w) word_bytes words all) in
    let free = all_follow is_text_byte (λ b. not (is_comma b) && is_unbroken b) text_plain (spaced words) bytes in
    let skips = skip_none (spaced words) (spaced_begins words solid) in
    record {
      ascii = ascii;
      same = chars-IsAscii (spaced words) ascii;
      spelt = encodes-IsAscii (spaced words) ascii;
      no_comma =
          none_of is_comma (spaced words)
          (all_follow (λ b. not (is_comma b) && is_unbroken b) (λ b. not (is_comma b))
          (λ b both. (and_parts (not (is_comma b)) (is_unbroken b) both).0) (spaced words) free);
      flows =
          ap (flowing false) (sym (append-nil (spaced words)))
          ∙ flowing_run false (spaced words) []
          (all_follow (λ b. not (is_comma b) && is_unbroken b) is_unbroken
          (λ b both. (and_parts (not (is_comma b)) (is_unbroken b) both).1) (spaced words) free)
          ∙ append-nil (spaced words);
      skips = skips;
      start = start_none (spaced words) ascii skips;
      end = end_none (spaced words) ascii (spaced_ends words solid);
    }

trim_same : (text : List ℕ) → IsText text → trim text ≡ text
trim_same text is = ap trim_end is.start ∙ is.end

-- ASCII text after a space is ASCII
pub space_small : (text : List ℕ) → IsAscii text → IsAscii (32 ∷ text)
space_small text ascii zero = omega arith
space_small text ascii (suc k) = ascii k

-- a space before a text of words is trimmed
pub after_space : (text : List ℕ) → IsText text → trim_start (32 ∷ text) ≡ text
after_space text is = start_one text (space_small text is.ascii) is.ascii is.skips

-- ---- parts of a name, with or without empty chunks around them

-- a text of words, with or without an empty chunk after it, is formatted to itself
formatted_text : (text : List ℕ) (span : Range ℕ) (following : Bool) → IsText text
    → formatted_chars (stands span text ∷ empties before_and following) ≡ text
formatted_text text span following is =
    ap (λ l. flowing false (chars text) ++ l) (formatted_empties before_and (space_after false (Normal text)) following)
    ∙ append-nil (flowing false (chars text)) ∙ ap (flowing false) is.same ∙ is.flows

-- such chunks have the text as their trimmed text
pub shown_text : (text : List ℕ) (span : Range ℕ) (following : Bool) → IsText text
    → trimmed_text (stands span text ∷ empties before_and following) ≡ text
shown_text text span following is =
    ap (λ cs. trim (encode_utf8_all cs)) (formatted_text text span following is) ∙ ap trim is.spelt ∙ trim_same text is

-- if the text isn't empty, such chunks aren't formatted to nothing
pub not_blank : (text : List ℕ) (span : Range ℕ) (following : Bool) → IsText text → 0 < length text
    → formats_to_nothing (stands span text ∷ empties before_and following) ≡ false
not_blank text span following is some =
    and_right (length (stands span text ∷ empties before_and following) == 1) _
    (ap (λ cs. length cs == 0) (formatted_text text span following is)
    ∙ ne_eqb (length text) 0 (λ none. omega arith))

-- a text of words, with or without an empty chunk before it, has its bytes as letters
pub letters_text : (before : Bool) (text : List ℕ) (span : Range ℕ) → IsText text
    → letters (empties after_and before ++ (stands span text ∷ [])) ≡ letters_of text
letters_text false text span is = append-nil (letters_of (chars text)) ∙ ap letters_of is.same
letters_text true text span is = ap (λ l. letters_of l ++ (letters_of (chars text) ++ [])) chars-nil
    ∙ append-nil (letters_of (chars text)) ∙ ap letters_of is.same

-- ---- prefix and name

pub words_append : (first : Bool) (xs ys : List (List ℕ))
    → (second : Bool) × (words_at first (xs ++ ys) ≡ words_at first xs ++ words_at second ys)
words_append first [] ys = (first, refl)
words_append first (x ∷ xs) ys = let more = words_append false xs ys in (more.0, ap (λ l. a_word (gap_of first) (letters_of x) ∷ l) more.1)

-- kept words that begin in lower case are low
pub low_words : (first : Bool) (words : List (List ℕ)) → AllWords is_small_letter words → list_all is_low (words_at first words) ≡ true
low_words first [] all = refl
low_words first ([] ∷ words) all = absurd (false≢true all)
low_words first ((b ∷ bs) ∷ words) all =
    let both = and_parts (is_kept_word is_small_letter (b ∷ bs)) (list_all (is_kept_word is_small_letter) words) all in
    let small = (and_parts (is_small_letter b) _ both.0).0 in
    and_from (is_lowercase b) (list_all is_low (words_at false words))
    (and_parts (is_lowercase b) _ (small_low b small)).0 (low_words false words both.1)

-- kept words that begin in upper case aren't low
pub high_words : (first : Bool) (words : List (List ℕ)) → AllWords is_capital_letter words
    → list_all (λ w. not (is_low w)) (words_at first words) ≡ true
high_words first [] all = refl
high_words first ([] ∷ words) all = absurd (false≢true all)
high_words first ((b ∷ bs) ∷ words) all =
    let both = and_parts (is_kept_word is_capital_letter (b ∷ bs)) (list_all (is_kept_word is_capital_letter) words) all in
    let capital = (and_parts (is_capital_letter b) _ both.0).0 in
    and_from (not (is_lowercase b)) (list_all (λ w. not (is_low w)) (words_at false words))
    (not_from_false (is_lowercase b) (capital_not_low b capital)) (high_words false words both.1)

leading_split : {A : Type 0} (test : A → Bool) (xs : List A) (y : A) (ys : List A) → list_all test xs ≡ true
    → test y ≡ false → prefix_len test (xs ++ (y ∷ ys)) ≡ length xs
leading_split test [] y ys all fails = rw fails refl
leading_split test (x ∷ xs) y ys all fails =
    let both = and_parts (test x) (list_all test xs) all in
    let here = both.0 in
    let more = leading_split test xs y ys both.1 fails in
    rw here (omega arith)

through_split : (test : Word → Bool) (xs ys : List Word) → list_all test xs ≡ true → list_any test ys ≡ false
    → through_last test (xs ++ ys) ≡ length xs
through_split test [] ys all none = through_none test ys none
through_split test (x ∷ xs) ys all none =
    let both = and_parts (test x) (list_all test xs) all in
    let here = both.0 in
    let more = through_split test xs ys both.1 none in
    rw here (omega arith)

no_words : (test : Word → Bool) (ys : List Word) → list_all (λ w. not (test w)) ys ≡ true → list_any test ys ≡ false
no_words test [] all = refl
no_words test (y ∷ ys) all =
    let both = and_parts (not (test y)) (list_all (λ w. not (test w)) ys) all in
    let here = not-true (test y) both.0 in
    rw here (no_words test ys both.1)

-- the cuts of a name before a comma, with a prefix of so many words
abbrev pub a_cut : ℕ → Cuts
a_cut prefix = record { given = 0; prefix = prefix }

-- low words before one or more that aren't low are the prefix
pub cut_prefix : (xs ys : List Word) → list_all is_low xs ≡ true → list_all (λ w. not (is_low w)) ys ≡ true → 0 < length ys
    → before_comma (xs ++ ys) ≡ record { given = 0; prefix = length xs }
unfolding before_comma
cut_prefix xs [] low high some = absurd (omega arith)
cut_prefix xs (y ∷ ys) low high some =
    let first = not-true (is_low y) (and_parts (not (is_low y)) _ high).0 in
    let lead : leading is_low (xs ++ (y ∷ ys)) ≡ length xs = leading_split is_low xs y ys low first in
    let size : length (xs ++ (y ∷ ys)) ≡ length xs + suc (length ys) = length-append xs (y ∷ ys) in
    let not_all : (leading is_low (xs ++ (y ∷ ys)) == length (xs ++ (y ∷ ys))) ≡ false =
    ne_eqb (leading is_low (xs ++ (y ∷ ys))) (length (xs ++ (y ∷ ys))) (λ same. omega arith) in
    let end : through_last is_low (xs ++ (y ∷ ys)) ≡ length xs = through_split is_low xs (y ∷ ys) low (no_words is_low (y ∷ ys) high) in
    ap (λ b. cond b (a_cut (length (xs ++ (y ∷ ys)) - 1)) (a_cut (through_last is_low (xs ++ (y ∷ ys))))) not_all ∙ ap a_cut end

letters_chars : (text : List ℕ) → map (λ l. l.char) (letters_of text) ≡ text
letters_chars [] = refl
letters_chars (b ∷ bs) = ap (λ l. b ∷ l) (letters_chars bs)

-- kept words have their line as their text
pub spelt_words : (first : Bool) (words : List (List ℕ)) → AllWords is_name_byte words → text_of_words (words_at first words) ≡ spaced words
spelt_words first words all =
    let is = is_text words all in
    ap (λ ls. trim (spelt ls)) (letters_spaced first words)
    ∙ ap (λ cs. trim (encode_utf8_all cs)) (letters_chars (spaced words)) ∙ ap trim is.spelt
    ∙ trim_same (spaced words) is
