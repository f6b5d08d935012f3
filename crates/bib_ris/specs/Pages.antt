-- Meaning: words of public contracts.
-- Lines of pages.
use Rattle.std.specs.Prelude.{ℕ, Bool, true, false, if◌then◌else◌, List, [], ◌∷◌, ◌++◌, codes, drop, take, encode_utf8_all, Option, Some, None}
use Rattle.std.specs.Char.{is_ascii_digit}
use Rattle.std.specs.List.{filter, prefix_len}
use Rattle.std.specs.Str.{chars, trim}
use Rattle.std.specs.declared.ops.Range.{Range}
use Rattle.bib_chunks.specs.Values.{Value, text}
use Rattle.bib_csl.specs.Texts.{bare_text}
use Rattle.bib_values.specs.Ranges.{ranges_read}
use Rattle.bib_ris.specs.Lines.{given_line}

-- whether pages are one page or one range of pages
abbrev pub is_one_range : Option (List (Range ℕ)) → Bool
is_one_range None = false
is_one_range (Some []) = false
is_one_range (Some (only ∷ [])) = true
is_one_range (Some (first ∷ second ∷ rest)) = false

-- the ASCII digits at the start of a text
abbrev pub first_page : List ℕ → List ℕ
first_page text = take (prefix_len is_ascii_digit text) text

-- the ASCII digits in the text after the digits at its start
abbrev pub last_page : List ℕ → List ℕ
last_page text = encode_utf8_all (filter is_ascii_digit (chars (drop (prefix_len is_ascii_digit text) text)))

-- the lines of the first and the last page of a text that is one range; one page has no last page
abbrev pub range_lines : List ℕ → List ℕ
range_lines text = given_line (codes "SP") (first_page text) ++ given_line (codes "EP") (last_page text)

-- the first and the last page of one range, or else the text
abbrev pub pages_lines : Option Value → List ℕ
pages_lines None = []
pages_lines (Some chunks) =
    if is_one_range (ranges_read chunks) then range_lines (trim (text chunks)) else given_line (codes "SP") (bare_text chunks)
