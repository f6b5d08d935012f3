-- Meaning: words of public contracts.
-- Texts as they are compared: without accents, case, punctuation and names of LaTeX commands.
use Rattle.std.specs.Prelude.{ℕ, ◌||◌, ◌&&◌, ◌==◌, Bool, false, if◌then◌else◌, List, [], ◌∷◌, ◌++◌, chars, codes, encode_utf8, encode_utf8_all, length}
use Rattle.std.specs.Char.{is_ascii_alphabetic, is_whitespace}
use Rattle.std.specs.Char.Unicode.Alphabetic.{is_alphabetic}
use Rattle.std.specs.Char.Unicode.Numeric.{is_numeric}
use Rattle.std.specs.List.{flat_map, slice_split}
use Rattle.std.specs.StrCase.Lower.{str_to_lowercase}
use Rattle.unicode_normalization.specs.Forms.{nfkd}
use Rattle.bib_text.specs.Characters as char

-- whether `c` separates words: white space, a slash, a hyphen, an en dash or an em dash
abbrev pub separates_words : ℕ → Bool
separates_words c = is_whitespace c || (c == char.slash || (c == char.hyphen || (c == char.en_dash || c == char.em_dash)))

-- the letters that a lowercase letter is sorted as, in UTF-8. The eight letters ß æ œ ð đ ħ ł ø don't decompose, but Unicode's default
-- collation doesn't distinguish them from these letters at its first level. Any other character is sorted as itself.
abbrev pub sort_letters : ℕ → List ℕ
sort_letters c =
    if c == 0xDF then codes "ss"
    else if c == 0xE6 then codes "ae"
    else if c == 0x153 then codes "oe"
    else if c == 0xF0 then codes "d"
    else if c == 0x111 then codes "d"
    else if c == 0x127 then codes "h"
    else if c == 0x142 then codes "l"
    else if c == 0xF8 then codes "o"
    else encode_utf8 c

-- a character of a decomposed text in lowercase, in UTF-8: an alphabetic or numeric one as in `sort_letters`, a space if it separates
-- words, and nothing otherwise. Other punctuation and the marks of accents become nothing
abbrev pub sort_character : ℕ → List ℕ
sort_character c = if separates_words c then char.space ∷ [] else if is_alphabetic c || is_numeric c then sort_letters c else []

-- whether a character belongs to the name of a LaTeX command: a backslash does, and so do the ASCII letters after it. `before` says
-- whether the character before it belongs to one.
abbrev pub is_in_name : Bool → ℕ → Bool
is_in_name before c = c == char.backslash || (before && is_ascii_alphabetic c)

-- the characters of a text without the names of LaTeX commands; the flag says whether the character before the text belongs to one
abbrev pub outside_names : Bool → List ℕ → List ℕ
outside_names before [] = []
outside_names before (c ∷ cs) = (if is_in_name before c then [] else c ∷ []) ++ outside_names (is_in_name before c) cs

-- the characters of a text without the names of LaTeX commands
abbrev pub without_commands : List ℕ → List ℕ
without_commands cs = outside_names false cs

-- the alphabetic and numeric characters of a text outside of names of LaTeX commands, with a space for each character that separates
-- words. They are in lowercase and without accents, by Unicode's compatibility decomposition (NFKD)
abbrev pub plain_text : List ℕ → List ℕ
plain_text text = flat_map sort_character (chars (str_to_lowercase (encode_utf8_all (nfkd (without_commands (chars text))))))

-- a word and a space, or nothing for an empty word
abbrev pub word_and_space : List ℕ → List ℕ
word_and_space word = if length word == 0 then [] else word ++ char.space ∷ []

-- a text as it is compared: its words in lowercase and without accents, each followed by a space
abbrev pub sort_text : List ℕ → List ℕ
sort_text text = flat_map word_and_space (slice_split (λ byte. byte == char.space) (plain_text text))
