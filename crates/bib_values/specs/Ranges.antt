-- Meaning: words of public contracts.
-- Ranges of numbers, as in `pages`. In the BibLaTeX manual a range is two numbers with one dash or more between them.
-- Which dashes there are, and where white space may occur, are rules of the Rust crate `biblatex`.
use Rattle.std.specs.Prelude.{◌≡◌, ℕ, ◌^◌, ◌<◌, Bool, true, ◌==◌, ◌||◌, ◌&&◌, nat_lt, if◌then◌else◌, map, List, [], ◌∷◌, ◌++◌, length, Option, Some, None, codes}
use Rattle.std.specs.List.{list_all, AllByRecursion}
use Rattle.std.specs.Char.{is_ascii_digit, is_whitespace}
use Rattle.std.specs.Str.Parse.{digits_value}
use Rattle.std.specs.Fmt.{decimal}
use Rattle.std.specs.declared.ops.Range.{Range}
use Rattle.bib_chunks.specs.declared.chunk.Chunk.TheVariants.{Normal}
use Rattle.bib_chunks.specs.Formatted.{formatted_chars}
use Rattle.bib_chunks.specs.Cuts.{comma_list}
use Rattle.bib_text.specs.Runs.{leading_run, rest_after}
use Rattle.bib_chunks.specs.Values.{Value, alone}
use Rattle.bib_values.specs.Lists.{strings_written}
use Rattle.bib_text.specs.Characters as char

-- the dashes, which separate two numbers: `-`, the en dash U+2013, the em dash U+2014
abbrev pub is_dash : ℕ → Bool
is_dash c = c == char.hyphen || c == char.en_dash || c == char.em_dash

-- ASCII decimal digits, at least one, of a number that fits in 32 bits
pub record IsNumber (digits : List ℕ) (n : ℕ) : Type 0 where
  pub some : 0 < length digits
  pub each : list_all is_ascii_digit digits ≡ true
  pub value : digits_value 10 digits ≡ n
  pub fits : n < 2 ^ 32

-- the text after the start of a range, and its end. If the text is empty, the start is the end. Otherwise it is a dash, any
-- number of `-`, white space, and the end
pub data EndsRange (start : ℕ) : List ℕ → ℕ → Type 0 where
  lone : EndsRange start [] start
  dashed : (dash : ℕ) (hyphens white digits : List ℕ) {end : ℕ} → is_dash dash ≡ true → list_all (λ c. c == char.hyphen) hyphens ≡ true
      → list_all is_whitespace white ≡ true → IsNumber digits end → EndsRange start (dash ∷ (hyphens ++ (white ++ digits))) end

-- a text, as a list of its characters, is a range: white space, its start, white space, and the text that ends it
pub record IsRange (text : List ℕ) (range : Range ℕ) : Type 0 where
  pub before : List ℕ
  pub digits : List ℕ
  pub between : List ℕ
  pub rest : List ℕ
  pub spells : text ≡ before ++ (digits ++ (between ++ rest))
  pub blank : list_all is_whitespace before ≡ true
  pub start : IsNumber digits range.start
  pub gap : list_all is_whitespace between ≡ true
  pub end : EndsRange range.start rest range.end

-- whether digits, at least one, spell a number that fits in 32 bits
abbrev pub is_small : List ℕ → Bool
is_small digits = nat_lt 0 (length digits) && nat_lt (digits_value 10 digits) (2 ^ 32)

-- the number of all ASCII digits at the start of a text, and the text after them; none if there is no digit or the number
-- doesn't fit in 32 bits
unfoldable pub leading_number : List ℕ → Option (ℕ × List ℕ)
leading_number cs =
    if is_small (leading_run is_ascii_digit cs)
    then Some (digits_value 10 (leading_run is_ascii_digit cs), rest_after is_ascii_digit cs) else None

-- the text after a dash and any `-` after that, if the text begins with a dash
unfoldable pub after_dash : List ℕ → Option (List ℕ)
after_dash [] = None
after_dash (c ∷ cs) = if is_dash c then Some (rest_after (λ d. d == char.hyphen) cs) else None

-- the range with this start, from its end and the text after that, which must be empty
abbrev pub ends_at : ℕ → Option (ℕ × List ℕ) → Option (Range ℕ)
ends_at a None = None
ends_at a (Some (b, [])) = Some (record { start = a; end = b })
ends_at a (Some (b, c ∷ cs)) = None

-- the range with this start, from the text after the dash: white space, and its end
abbrev pub up_to : ℕ → Option (List ℕ) → Option (Range ℕ)
up_to a None = None
up_to a (Some cs) = ends_at a (leading_number (rest_after is_whitespace cs))

-- the range with this start, from the text after the start and the white space there. If that is empty, the start is
-- the end too; otherwise it begins with a dash.
abbrev pub goes_on_with : ℕ → List ℕ → Option (Range ℕ)
goes_on_with a [] = Some (record { start = a; end = a })
goes_on_with a (c ∷ cs) = up_to a (after_dash (c ∷ cs))

-- the range, from its start and the text after that
abbrev pub starts_with : Option (ℕ × List ℕ) → Option (Range ℕ)
starts_with None = None
starts_with (Some (a, cs)) = goes_on_with a (rest_after is_whitespace cs)

-- the range that a text is, parsed from its start on. A law of this crate states that it is the range of `IsRange`.
unfoldable pub range_of : List ℕ → Option (Range ℕ)
range_of cs = starts_with (leading_number (rest_after is_whitespace cs))

-- a value before others, if both exist
abbrev pub with_first : {A : Type 0} → Option A → Option (List A) → Option (List A)
with_first (Some a) (Some rest) = Some (a ∷ rest)
with_first (Some a) None = None
with_first None rest = None

-- all values, if each exists
abbrev pub all_of : {A : Type 0} → List (Option A) → Option (List A)
all_of [] = Some []
all_of (a ∷ rest) = with_first a (all_of rest)

-- the first of the values, if there is one
abbrev pub first_of : {A : Type 0} → Option (List A) → Option A
first_of None = None
first_of (Some []) = None
first_of (Some (a ∷ rest)) = Some a

-- the ranges that are parsed from chunks: those of the parts of a comma list, if each part spells one
unfoldable pub ranges_read : Value → Option (List (Range ℕ))
ranges_read chunks = all_of (map (λ part. range_of (formatted_chars part)) (comma_list chunks))

-- the range that is parsed from chunks: the first one in their list of ranges
abbrev pub range_read : Value → Option (Range ℕ)
range_read chunks = first_of (ranges_read chunks)

-- how a range is written: its ends in decimal digits, with `-` between them
abbrev pub range_text : Range ℕ → List ℕ
range_text range = (decimal range.start ++ codes "-") ++ decimal range.end

-- a range as one normal chunk
abbrev pub range_written : Range ℕ → Value
range_written range = alone (Normal (range_text range))

-- how ranges are written: as a comma list of the texts by `range_text`
abbrev pub ranges_written : List (Range ℕ) → Value
ranges_written ranges = strings_written (map range_text ranges)

-- the ranges that parse from their written form: both ends fit in 32 bits
abbrev pub RangeKept : Range ℕ → Type 0
RangeKept range = (range.start < 2 ^ 32) × (range.end < 2 ^ 32)

-- the lists of ranges that parse from their written form: at least one range, and the ends of each fit in 32 bits
abbrev pub RangesKept : List (Range ℕ) → Type 0
RangesKept ranges = (0 < length ranges) × AllByRecursion RangeKept ranges
