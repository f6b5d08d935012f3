-- Meaning: words of public contracts.
-- Usual labels of volumes, such as `B`, `IIa` and `75/76`. BibTeX and BibLaTeX print the text of `volume`; only Biber's
-- `--validate-datamodel` requires a number, in the digits of any script.
use Rattle.std.specs.Prelude.{ℕ, Bool, false, ◌&&◌, ◌||◌, ◌==◌, ◌-◌, List, [], ◌∷◌, codes, if◌then◌else◌, length, take}
use Rattle.std.specs.Char.{is_ascii_alphabetic, is_ascii_alphanumeric, is_ascii_digit, to_ascii_uppercase}
use Rattle.std.specs.List.{after_first, before_first, list_all}
use Rattle.bib_text.specs.Characters as char
use Rattle.bib_dates.specs.Dates.{holds, last}
use Rattle.bib_findings.specs.OtherDigits.{are_other_digits}

-- whether a byte is a letter of Roman numerals, in any case
abbrev pub is_roman_letter : ℕ → Bool
is_roman_letter b = holds (to_ascii_uppercase b) (codes "IVXLCDM")

-- whether a text is an ASCII letter, and then only digits, such as `B72`
abbrev pub is_letter_and_digits : List ℕ → Bool
is_letter_and_digits [] = false
is_letter_and_digits (b ∷ digits) = is_ascii_alphabetic b && list_all is_ascii_digit digits

-- whether the last byte of a text is an ASCII letter or digit, and the others are digits or letters of Roman numerals, as in `12A` and
-- `IIa`
abbrev pub is_numeral_and_letter : List ℕ → Bool
is_numeral_and_letter label =
    is_ascii_alphanumeric (last label)
    && (list_all is_ascii_digit (take (length label - 1) label) || list_all is_roman_letter (take (length label - 1) label))

-- whether a text is a label without a slash
abbrev pub is_simple_label : List ℕ → Bool
is_simple_label label = is_numeral_and_letter label || is_letter_and_digits label

-- whether a text is one label without a slash, or two with a slash between them, such as `75/76`
abbrev pub is_label : List ℕ → Bool
is_label text =
    if holds char.slash text
    then is_simple_label (before_first (λ b. b == char.slash) text) && is_simple_label (after_first (λ b. b == char.slash) text)
    else is_simple_label text

-- whether a text is a usual label of a volume, which may be a number in the digits of another script
abbrev pub is_volume_label : List ℕ → Bool
is_volume_label text = is_label text || are_other_digits text
