-- Lists that grow by one item.
use Rattle.std.proofs.Common.{◌≡◌, ℕ, Bool, ◌&&◌, List, [], ◌∷◌, ◌++◌, ◌+◌, ◌<◌, length, get_or, take, map, Option, Some, None, refl, sym, ap, ◌∙◌, arith, suc, zero}
use Rattle.std.specs.Prelude.{slice_get}
use Rattle.std.specs.List.{cons_option, filter_map, list_all}
use Rattle.std.proofs.lemmas.List.{take_more}

-- the first `index + 1` items are the first `index` items and the one at `index`
pub more : {A : Type 0} (items : List A) (index : ℕ) (item : A) → index < length items → item ≡ get_or items index item
    → take (index + 1) items ≡ take index items ++ item ∷ []
more items index item within is = take_more items index item within ∙ ap (λ one. take index items ++ one ∷ []) (sym is)

-- looking up an index in range of mapped items returns the image of the item at it
pub get_mapped : {A B : Type 0} (f : A → B) (items : List A) (index : ℕ) (other : A) → index < length items
    → slice_get (map f items) index ≡ Some (f (get_or items index other))
get_mapped f [] index other within = absurd (omega arith)
get_mapped f (item ∷ items) zero other within = refl
get_mapped f (item ∷ items) (suc index) other within = get_mapped f items index other (omega arith)

-- a filter map of a list with one more item that has an image appends this image
pub given_more : {A B : Type 0} (given : A → Option B) (items : List A) (item : A) (one : B) → given item ≡ Some one
    → filter_map given (items ++ item ∷ []) ≡ filter_map given items ++ one ∷ []
given_more given [] item one is = rw is refl
given_more given (first ∷ items) item one is =
    elim (given first) as (λ o. cons_option o (filter_map given (items ++ item ∷ [])) ≡ cons_option o (filter_map given items) ++ one ∷ [])
    [ None ↦ given_more given items item one is | Some here ↦ ap (λ l. here ∷ l) (given_more given items item one is) ]

-- all mapped items pass a test exactly if the images of all items do
pub all_of_map : {A B : Type 0} (f : A → B) (test : B → Bool) (items : List A)
    → list_all test (map f items) ≡ list_all (λ item. test (f item)) items
all_of_map f test [] = refl
all_of_map f test (item ∷ items) = ap (λ b. test (f item) && b) (all_of_map f test items)
