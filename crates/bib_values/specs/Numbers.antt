-- Meaning: words of public contracts.
-- Whole numbers, as in `volume` and `volumes`. The BibLaTeX manual requires digits there; to parse a roman numeral too
-- is a rule of the Rust crate `biblatex`.
use Rattle.std.specs.Prelude.{ℕ, ◌^◌, Bool, cond, ◌&&◌, nat_lt, ℤ, pos, List, length, Option, Some, None}
use Rattle.std.specs.Option.{option_map, option_or}
use Rattle.std.specs.Str.{all_ascii_digits, trim}
use Rattle.std.specs.Str.Parse.{without_leading_sign, signed_digits_value}
use Rattle.std.specs.Fmt.{signed_decimal}
use lib.Signed.{mag}
use Rattle.bib_chunks.specs.declared.chunk.Chunk.TheVariants.{Normal}
use Rattle.bib_chunks.specs.Values.{Value, text, alone}
use Rattle.bib_values.specs.Roman.{roman_of}

-- whether a text is the ASCII decimal digits, with or without a sign, of a number that fits in a signed 64-bit integer
abbrev pub is_decimal : List ℕ → Bool
is_decimal bs =
    (nat_lt 0 (length (without_leading_sign bs)) && all_ascii_digits (without_leading_sign bs))
    && nat_lt (mag (signed_digits_value 10 bs)) (2 ^ 63)

-- the number of a text for which `is_decimal` holds; `None` for any other text
unfoldable pub decimal_of : List ℕ → Option ℤ
decimal_of bs = cond (is_decimal bs) (Some (signed_digits_value 10 bs)) None

-- the number in a text: in digits, maybe with a sign before them, otherwise as a roman numeral
abbrev pub number_of : List ℕ → Option ℤ
number_of bs = option_or (decimal_of bs) (option_map pos (roman_of bs))

-- the number that the formatted text of chunks spells, without the white space at both ends
unfoldable pub number_read : Value → Option ℤ
number_read chunks = number_of (trim (text chunks))

-- how a number is written: in decimal digits as one normal chunk, with `-` before a negative one
abbrev pub number_written : ℤ → Value
number_written z = alone (Normal (signed_decimal z))
