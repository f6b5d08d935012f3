-- Meaning: words of public contracts.
-- Tables of names with their counts.
use Rattle.std.specs.Prelude.{◌≡◌, ℕ, ◌-◌, ◌^◌, min, max, if◌then◌else◌, List, ◌++◌, Option, Some, None, bytes_eq, codes, count_by, fold, length, map, replicate}
use Rattle.std.specs.Cmp.Lexicographic.{slice_cmp}
use Rattle.std.specs.Fmt.{decimal}
use Rattle.std.specs.List.{flat_map, list_any}
use Rattle.std.specs.List.Sorted.{IsPermutation, IsSortedByKey, IsStableByKey, IsStrictlySortedBy}
use Rattle.std.specs.Map.{lookup}
use Rattle.std.specs.Ordering.{nat_cmp}
use Rattle.std.specs.Str.{chars}
use Rattle.bib_text.specs.Characters as char
use Rattle.bibkit_core.specs.declared.tables.Row.{Row}

-- the number of occurrences of a name in a list, or `None` if it doesn't occur; the number stays at its maximum
abbrev pub times_met : List (List ℕ) → List ℕ → Option ℕ
times_met names name = if list_any (bytes_eq name) names then Some (min (count_by (bytes_eq name) names) (2 ^ 64 - 1)) else None

-- the name of a row, and its count
abbrev pub name_and_count : Row → List ℕ × ℕ
name_and_count row = (row.name.now, row.count)

-- `rows` has one row for each name that occurs in `names`, with the number of its occurrences, at most 2 ^ 64 - 1, in the order of the
-- names' bytes
pub record AreByName (names : List (List ℕ)) (rows : List Row) : Type 0 where
  pub counts : (name : List ℕ) → lookup (bytes_eq name) (map name_and_count rows) ≡ times_met names name
  pub sorted : IsStrictlySortedBy (slice_cmp nat_cmp) (map (λ row. row.name.now) rows)

-- the difference between the maximum and the count of a row
abbrev pub count_below_greatest : Row → ℕ
count_below_greatest row = 2 ^ 64 - 1 - row.count

-- `rows` has one row for each name that occurs in `names`, the greatest count first; rows with equal counts are in the order of their
-- names
pub record AreByCount (names : List (List ℕ)) (rows : List Row) : Type 0 where
  pub by_name : List Row
  pub are : AreByName names by_name
  pub same : IsPermutation by_name rows
  pub sorted : IsSortedByKey count_below_greatest nat_cmp rows
  pub stable : IsStableByKey count_below_greatest nat_cmp by_name rows

-- the number of characters of the longest name, or 0 without rows
abbrev pub widest : List Row → ℕ
widest rows = fold (λ width row. max (length (chars row.name.now)) width) 0 rows

-- the spaces after `written` characters up to a width; none if the text is as wide or wider
abbrev pub padding : ℕ → ℕ → List ℕ
padding written width = replicate (width - written) char.space

-- the line of a row: two spaces, its name, padded to a width, a space, and its count, aligned to the right in eight characters
abbrev pub row_line : ℕ → Row → List ℕ
row_line width row =
    codes "  "
    ++
    (row.name.now
    ++
    (padding (length (chars row.name.now)) width
    ++ (codes " " ++ (padding (length (decimal row.count)) 8 ++ (decimal row.count ++ codes "\n")))))

-- an empty line, the title of a table, and a line for each row
abbrev pub table_text : List ℕ → List Row → List ℕ
table_text title rows = codes "\n" ++ (title ++ (codes "\n" ++ flat_map (row_line (widest rows)) rows))
