-- Arrays and objects, as lists.
use Rattle.std.proofs.Common.{◌≡◌, List, [], ◌∷◌, ℕ, map, Some, refl, sym, ap, ◌∙◌, Vec}
use Rattle.std.specs.Borrow.{Bor}
use Rattle.std.specs.List.{list_all}
use Rattle.std.specs.Prelude.{Bool, ◌&&◌}
use Rattle.json.specs.Json.{array, object}
use Rattle.json.specs.Value.{value_view, items_view, members_view}
use Rattle.json.specs.declared.value.Value.{Value, Array, Object}
use Rattle.json.proofs.Trees.{view-Array, view-Object}
use Rattle.bib_from_csl.specs.Objects.{listed_items, listed_members, array_elements, object_members}

listed_view : {A : Type 0} (vs : List (Value A)) → map value_view vs ≡ listed_items (items_view vs)
listed_view [] = refl
listed_view (v ∷ vs) = ap (λ js. value_view v ∷ js) (listed_view vs)

listed_members_view : {A : Type 0} (ms : List (Bor (List ℕ) × Value A))
    → map (λ m. (m.0.now, value_view m.1)) ms ≡ listed_members (members_view ms)
listed_members_view [] = refl
listed_members_view (m ∷ ms) = ap (λ js. (m.0.now, value_view m.1) ∷ js) (listed_members_view ms)

-- the images of all items pass a test exactly if all items of the mapped list pass it
pub all_mapped : {X Y : Type 0} (test : Y → Bool) (f : X → Y) (xs : List X) → list_all (λ x. test (f x)) xs ≡ list_all test (map f xs)
all_mapped test f [] = refl
all_mapped test f (x ∷ xs) = ap (λ b. test (f x) && b) (all_mapped test f xs)

pub elements_of_array : {A : Type 0} (v : Vec (Value A) A) → Some (map value_view v.items) ≡ array_elements (value_view (Array v))
elements_of_array v = ap Some (listed_view v.items) ∙ ap array_elements (of v) where
  of : {A : Type 0} (v : Vec (Value A) A) → array (items_view v.items) ≡ value_view (Array v)
  of v = sym (view-Array v)

pub members_of_object : {A : Type 0} (v : Vec (Bor (List ℕ) × Value A) A)
    → Some (map (λ m. (m.0.now, value_view m.1)) v.items) ≡ object_members (value_view (Object v))
members_of_object v = ap Some (listed_members_view v.items) ∙ ap object_members (of v) where
  of : {A : Type 0} (v : Vec (Bor (List ℕ) × Value A) A) → object (members_view v.items) ≡ value_view (Object v)
  of v = sym (view-Object v)
