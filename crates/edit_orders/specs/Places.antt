-- Meaning: words of public contracts.
-- The places of entries in an order.
use Rattle.std.specs.Prelude.{◌≡◌, ◌≤◌, ◌<◌, ℕ, true, false, List, [], Option, length, slice_index, slice_index_or}
use Rattle.std.specs.List.{AllWithin, AllZip}
use Rattle.std.specs.Ordering.{is_lt, nat_cmp}
use Rattle.bib_abbreviations.specs.Abbreviations.{Definitions, definition_in}
use Rattle.bib_syntax.specs.Reading.{EntryReading, FileReading}
use Rattle.edit_orders.specs.Fields.{IsValueOf}
use Rattle.edit_orders.specs.Values.{values_cmp}
use Rattle.edit_orders.specs.declared.order.SortBy.{SortBy}
use Rattle.edit_orders.specs.declared.values.SortValue.{SortValue}

-- the sort values of an entry, one for each property of an order
abbrev pub AreValuesOf : Definitions → List SortBy → EntryReading → List (Option SortValue) → Type 0
AreValuesOf definitions order e values = AllZip (λ by value. IsValueOf definitions e by.property value) order values

-- numbers that are places of entries with these sort values: two numbers compare as the entries at the same indices do
pub record ArePlacesOf (order : List SortBy) (all : List (List (Option SortValue))) (places : List ℕ) : Type 0 where
  pub same_length : length places ≡ length all
  pub compare : (i j : ℕ) → i < length all → j < length all
      → nat_cmp (slice_index places i) (slice_index places j) ≡ values_cmp order (slice_index_or all i []) (slice_index_or all j [])

-- numbers that are the places of the entries of a file in an order: the entries have sort values, and the numbers are their places
pub record ArePlacesIn (order : List SortBy) (says : FileReading) (places : List ℕ) : Type 0 where
  pub all : List (List (Option SortValue))
  pub values : AllZip (AreValuesOf (definition_in says.abbreviations) order) says.entries all
  pub placed : ArePlacesOf order all places

-- `place` is the place of sort values among sorted ones: those before the place are less, and the others aren't
pub record IsPlaceIn (order : List SortBy) (sorted : List (List (Option SortValue))) (values : List (Option SortValue)) (place : ℕ)
    : Type 0 where
  pub small : place ≤ length sorted
  pub before : AllWithin (λ vs. is_lt (values_cmp order vs values) ≡ true) sorted 0 place
  pub after : AllWithin (λ vs. is_lt (values_cmp order vs values) ≡ false) sorted place (length sorted)
