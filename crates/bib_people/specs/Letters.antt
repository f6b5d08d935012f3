-- Meaning: words of public contracts.
-- The words of a name, after "Tame the BeaST" by Nicolas Markey.
use Rattle.std.specs.Prelude.{ℕ, Bool, true, false, not, ◌&&◌, ◌==◌, if◌then◌else◌, List, [], ◌∷◌, ◌++◌, length, map, encode_utf8_all}
use Rattle.std.specs.List.{flat_map, prefix_len}
use Rattle.std.specs.Char.{is_whitespace}
use Rattle.std.specs.Str.{chars, trim}
use Rattle.bib_chunks.specs.declared.chunk.Chunk.{Chunk}
use Rattle.bib_chunks.specs.declared.chunk.Chunk.TheVariants.{Normal, Verbatim, Math}
use Rattle.bib_text.specs.declared.spanned.Spanned.{Spanned}
use Rattle.bib_chunks.specs.Styled.{text_of}

-- a character of a name, and whether it is verbatim
pub record Letter : Type 0 where
  pub char : ℕ
  pub is_verbatim : Bool

-- the characters of a text as letters, all verbatim if the flag says so
abbrev pub as_letters : Bool → List ℕ → List Letter
as_letters is_verbatim text = map (λ c. record { char = c; is_verbatim = is_verbatim }) (chars text)

-- whether a chunk is verbatim; math isn't
abbrev pub is_verbatim : Chunk → Bool
is_verbatim (Normal text) = false
is_verbatim (Verbatim text) = true
is_verbatim (Math text) = false

-- the letters of chunks, without the dollar signs around math
abbrev pub letters : List (Spanned Chunk) → List Letter
letters = flat_map (λ c. as_letters (is_verbatim c.v) (text_of c.v))

-- a letter that separates words: white space that isn't verbatim
abbrev pub is_gap : Letter → Bool
is_gap l = is_whitespace l.char && not l.is_verbatim

-- the length of the gap at the start, in letters
abbrev pub gap_len : List Letter → ℕ
gap_len letters = prefix_len is_gap letters

-- the length of the word at the start, in letters
abbrev pub word_len : List Letter → ℕ
word_len letters = prefix_len (λ l. not (is_gap l)) letters

-- a word of a name, and the gap before it
pub record Word : Type 0 where
  pub gap : List Letter
  pub letters : List Letter

-- the word of these letters and this gap
abbrev pub a_word : List Letter → List Letter → Word
a_word gap letters = record { gap = gap; letters = letters }

-- the words of a letter followed by the letters of these words. The letter belongs to the gap before the first word, is
-- the first letter of that word, or is a word by itself if a gap or nothing comes after it. A gap without a word after it is
-- dropped.
abbrev pub words_with_letter : Letter → List Word → List Word
words_with_letter l [] = if is_gap l then [] else a_word [] (l ∷ []) ∷ []
words_with_letter l (word ∷ words) =
    if is_gap l then a_word (l ∷ word.gap) word.letters ∷ words
    else if length word.gap == 0 then a_word [] (l ∷ word.letters) ∷ words
    else a_word [] (l ∷ []) ∷ word ∷ words

-- the words of letters; a gap at the end is dropped
abbrev pub words_of : List Letter → List Word
words_of [] = []
words_of (l ∷ rest) = words_with_letter l (words_of rest)

-- the letters of neighbouring words with the gaps before them, except the gap before the first word if the flag says so
abbrev pub word_letters : Bool → List Word → List Letter
word_letters first [] = []
word_letters first (word ∷ words) = (if first then [] else word.gap) ++ (word.letters ++ word_letters false words)

-- the text from the first letter of neighbouring words to the last one, in bytes, without the white space at its ends
abbrev pub text_of_words : List Word → List ℕ
text_of_words words = trim (encode_utf8_all (map (λ l. l.char) (word_letters true words)))
