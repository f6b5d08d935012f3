-- Meaning: words of public contracts.
-- Texts as ASCII letters, ASCII digits and spaces. Letters lose their marks, and some are replaced. Letters that aren't ASCII then are
-- left out, such as those of other scripts.
use Rattle.std.specs.Prelude.{ℕ, ◌||◌, ◌==◌, Bool, if◌then◌else◌, List, [], ◌∷◌, ◌++◌, codes}
use Rattle.std.specs.Char.{is_ascii_alphanumeric, is_whitespace}
use Rattle.std.specs.List.{flat_map}
use Rattle.std.specs.Str.{chars}
use Rattle.unicode_normalization.specs.Forms.{nfkd}
use Rattle.bib_text.specs.Characters as char

-- whether `c` separates words: white space, a slash, an en dash or an em dash; a hyphen doesn't
abbrev pub is_word_gap : ℕ → Bool
is_word_gap c = is_whitespace c || (c == char.slash || c == char.en_dash || c == char.em_dash)

-- the letters for a small letter that doesn't decompose, or none: ß æ ð ø þ đ ħ ı ł ŋ œ ŧ
abbrev pub for_small : ℕ → List ℕ
for_small c =
    if c == 0xDF then codes "ss"
    else if c == 0xE6 then codes "ae"
    else if c == 0xF0 then codes "d"
    else if c == 0xF8 then codes "o"
    else if c == 0xFE then codes "th"
    else if c == 0x111 then codes "d"
    else if c == 0x127 then codes "h"
    else if c == 0x131 then codes "i"
    else if c == 0x142 then codes "l"
    else if c == 0x14B then codes "n"
    else if c == 0x153 then codes "oe"
    else if c == 0x167 then codes "t"
    else []

-- the letters for a capital that doesn't decompose, or none: Æ Ð Ø Þ Đ Ħ Ł Ŋ Œ Ŧ ẞ
abbrev pub for_capital : ℕ → List ℕ
for_capital c =
    if c == 0xC6 then codes "AE"
    else if c == 0xD0 then codes "D"
    else if c == 0xD8 then codes "O"
    else if c == 0xDE then codes "TH"
    else if c == 0x110 then codes "D"
    else if c == 0x126 then codes "H"
    else if c == 0x141 then codes "L"
    else if c == 0x14A then codes "N"
    else if c == 0x152 then codes "OE"
    else if c == 0x166 then codes "T"
    else if c == 0x1E9E then codes "SS"
    else []

-- the letters for a letter that doesn't decompose, or none
abbrev pub letters_for : ℕ → List ℕ
letters_for c = for_small c ++ for_capital c

-- a character as plain text: one letter or more, a digit, a space, or nothing
abbrev pub key_letter : ℕ → List ℕ
key_letter c = if is_ascii_alphanumeric c then c ∷ [] else if is_word_gap c then char.space ∷ [] else letters_for c

-- a text as plain text: letters lose their marks (by Unicode's compatibility decomposition, NFKD), and each gap becomes a space.
-- All other characters are left out, except ASCII letters, ASCII digits and the letters that `letters_for` replaces
abbrev pub key_letters : List ℕ → List ℕ
key_letters text = flat_map key_letter (nfkd (chars text))
