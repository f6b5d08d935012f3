-- Meaning: words of public contracts.
-- Sort values: the values by which entries are compared.
use Rattle.std.specs.Prelude.{ℕ, ◌==◌, Bool, List, [], ◌∷◌, Option, None, Some, if◌then◌else◌, length, option_map}
use Rattle.std.specs.Cmp.Lexicographic.{slice_cmp}
use Rattle.std.specs.List.{flat_map, list_all}
use Rattle.std.specs.Ordering.{nat_cmp, ordering_then}
use Rattle.std.specs.declared.cmp.Ordering.{Ordering}
use Rattle.std.specs.declared.cmp.Ordering.TheVariants.{Less, Equal, Greater}
use Rattle.bib_chunks.specs.Values.{Value, text}
use Rattle.bib_people.specs.People.{people_of}
use Rattle.edit_orders.specs.Letters.{sort_text}
use Rattle.edit_orders.specs.People.{person_texts}
use Rattle.edit_orders.specs.Years.{year_number}
use Rattle.edit_orders.specs.declared.order.Direction.{Direction}
use Rattle.edit_orders.specs.declared.order.Direction.TheVariants.{Ascending, Descending}
use Rattle.edit_orders.specs.declared.order.Property.{Property}
use Rattle.edit_orders.specs.declared.order.Property.TheVariants as property
use Rattle.edit_orders.specs.declared.order.SortBy.{SortBy}
use Rattle.edit_orders.specs.declared.values.SortValue.{SortValue}
use Rattle.edit_orders.specs.declared.values.SortValue.TheVariants.{Number, Texts}

-- whether all texts are empty
abbrev pub are_empty : List (List ℕ) → Bool
are_empty texts = list_all (λ t. length t == 0) texts

-- texts as a sort value, if one of them isn't empty
abbrev pub some_texts : List (List ℕ) → Option SortValue
some_texts texts = if are_empty texts then None else Some (Texts texts)

-- a text as a sort value
abbrev pub text_as_value : List ℕ → Option SortValue
text_as_value text = Some (Texts (text ∷ []))

-- the sort value of the year in the contents of a field
abbrev pub year_value : Value → Option SortValue
year_value chunks = option_map Number (year_number (text chunks))

-- the sort value of the people in the contents of a field: the texts of all of them, one person after another
abbrev pub people_value : Value → Option SortValue
people_value chunks = some_texts (flat_map person_texts (people_of chunks))

-- the sort value of a title in the contents of a field
abbrev pub title_value : Value → Option SortValue
title_value chunks = some_texts (sort_text (text chunks) ∷ [])

-- the sort value of a property that is in a field with these contents; the key and the type aren't in a field
abbrev pub sort_value_of : Property → Value → Option SortValue
sort_value_of property.Year chunks = year_value chunks
sort_value_of property.Author chunks = people_value chunks
sort_value_of property.Title chunks = title_value chunks
sort_value_of property.Key chunks = None
sort_value_of property.Type chunks = None

-- the order of two sort values: numbers by size, and lists of texts by the first text in which they differ; texts by their bytes.
-- A list that is the start of another is less, and a number is less than texts.
abbrev pub value_cmp : SortValue → SortValue → Ordering
value_cmp (Number n) (Number m) = nat_cmp n m
value_cmp (Number n) (Texts us) = Less
value_cmp (Texts ts) (Number m) = Greater
value_cmp (Texts ts) (Texts us) = slice_cmp (slice_cmp nat_cmp) ts us

-- the order of two sort values in a direction
abbrev pub directed_cmp : Direction → SortValue → SortValue → Ordering
directed_cmp Ascending v w = value_cmp v w
directed_cmp Descending v w = value_cmp w v

-- the order of two sort values in a direction; an entry without one comes last in both directions
abbrev pub last_cmp : Direction → Option SortValue → Option SortValue → Ordering
last_cmp direction None None = Equal
last_cmp direction None (Some w) = Greater
last_cmp direction (Some v) None = Less
last_cmp direction (Some v) (Some w) = directed_cmp direction v w

-- the first of some sort values
abbrev pub head_value : List (Option SortValue) → Option SortValue
head_value [] = None
head_value (v ∷ vs) = v

-- the sort values after the first one
abbrev pub later_values : List (Option SortValue) → List (Option SortValue)
later_values [] = []
later_values (v ∷ vs) = vs

-- the order of two entries by some properties: the first property by which they differ decides. `vs` and `ws` are the sort values of the
-- entries, one for each property.
abbrev pub values_cmp : List SortBy → List (Option SortValue) → List (Option SortValue) → Ordering
values_cmp [] vs ws = Equal
values_cmp (s ∷ order) vs ws =
    ordering_then (last_cmp s.direction (head_value vs) (head_value ws)) (values_cmp order (later_values vs) (later_values ws))
