-- Meaning: words of public contracts.
-- Orders of entries, and their texts.
use Rattle.std.specs.Prelude.{◌≡◌, ◌==◌, ◌<◌, ℕ, Bool, true, List, [], ◌∷◌, ◌++◌, Option, None, Some, bytes_eq, codes, drop, is_some, length, nat_eq, option_map, take, if◌then◌else◌}
use Rattle.std.specs.List.{list_all, slice_split, starts_with}
use Rattle.bib_text.specs.Characters as char
use Rattle.edit_orders.specs.declared.order.Direction.{Direction}
use Rattle.edit_orders.specs.declared.order.Direction.TheVariants.{Ascending, Descending}
use Rattle.edit_orders.specs.declared.order.Order.{Order}
use Rattle.edit_orders.specs.declared.order.Order.TheVariants.{File, One, Two, Three, Four}
use Rattle.edit_orders.specs.declared.order.OrderError.{OrderError}
use Rattle.edit_orders.specs.declared.order.OrderError.TheVariants.{UnknownProperty, TooManyProperties}
use Rattle.edit_orders.specs.declared.order.Property.{Property}
use Rattle.edit_orders.specs.declared.order.Property.TheVariants as property
use Rattle.edit_orders.specs.declared.order.SortBy.{SortBy}

-- the property with this name, or `None`
abbrev pub property_named : List ℕ → Option Property
property_named name =
    if bytes_eq name (codes "key") then Some property.Key else if bytes_eq name (codes "year") then Some property.Year else
    if bytes_eq name (codes "author") then Some property.Author else if bytes_eq name (codes "title") then Some property.Title else
    if bytes_eq name (codes "type") then Some property.Type else None

-- a property with a direction, if there is a property
abbrev pub directed : Direction → Option Property → Option SortBy
directed direction found = option_map (λ one. record { property = one; direction = direction }) found

-- the property with its direction that a word names: the name of a property, with a hyphen before it if descending
abbrev pub part_named : List ℕ → Option SortBy
part_named word =
    if starts_with nat_eq word (codes "-") then directed Descending (property_named (drop 1 word))
    else directed Ascending (property_named word)

-- the words of a text between its commas
abbrev pub comma_words : List ℕ → List (List ℕ)
comma_words text = slice_split (λ byte. byte == char.comma) text

-- whether a word names a property
abbrev pub is_part : List ℕ → Bool
is_part word = is_some (part_named word)

-- the properties of an order, the first one first
abbrev pub order_parts : Order → List SortBy
order_parts File = []
order_parts (One a) = a ∷ []
order_parts (Two a b) = a ∷ b ∷ []
order_parts (Three a b c) = a ∷ b ∷ c ∷ []
order_parts (Four a b c d) = a ∷ b ∷ c ∷ d ∷ []

-- a word is the first of some words that names no property
pub record IsFirstUnknown (words : List (List ℕ)) (word : List ℕ) : Type 0 where
  pub before : List (List ℕ)
  pub after : List (List ℕ)
  pub is : words ≡ before ++ word ∷ after
  pub known : list_all is_part before ≡ true
  pub unknown : part_named word ≡ None

-- there are more than four words, and the first five of them name properties
pub record AreTooMany (words : List (List ℕ)) : Type 0 where
  pub more : 4 < length words
  pub known : list_all is_part (take 5 words) ≡ true

-- words are no order, for this reason
abbrev pub IsOrderRefused : List (List ℕ) → OrderError → Type 0
IsOrderRefused words (UnknownProperty word) = IsFirstUnknown words word.now
IsOrderRefused words TooManyProperties = AreTooMany words
