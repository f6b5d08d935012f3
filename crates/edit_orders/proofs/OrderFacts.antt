-- Facts about the words of an order.
use Rattle.std.proofs.Common.{◌≡◌, ℕ, ◌+◌, ◌<◌, ◌≤◌, true, List, [], ◌∷◌, ◌++◌, None, Some, drop, get_or, length, map, take, refl, sym, ap, ap₂, subst, ◌∙◌, append_assoc, arith}
use Rattle.std.specs.Prelude.{◌&&◌, is_some}
use Rattle.std.specs.List.{list_all}
use Rattle.std.proofs.lemmas.List.{length-map, length-take-le, take-append-drop, take_more}
use Rattle.std.proofs.lemmas.List.Folds.{list_all-append}
use Rattle.edit_orders.specs.Orders.{AreTooMany, IsFirstUnknown, is_part, part_named, order_parts}
use Rattle.edit_orders.specs.declared.order.Order.{Order}
use Rattle.edit_orders.specs.declared.order.Order.TheVariants.{File, One, Two, Three, Four}
use Rattle.edit_orders.specs.declared.order.SortBy.{SortBy}

-- words that name properties are known
known : (parts : List SortBy) (words : List (List ℕ)) → map Some parts ≡ map part_named words → list_all is_part words ≡ true
known parts [] same = refl
known [] (w ∷ words) same = absurd (let size = ap length same in omega (arith, size))
known (p ∷ parts) (w ∷ words) same =
    let first : is_part w ≡ true = ap is_some (sym (ap (λ l. get_or l 0 None) same)) in
    ap₂ (λ a b. a && b) first (known parts words (ap (drop 1) same))

-- a list is the elements before an index, the element at it, and those after it
parts_at : {A : Type 0} (xs : List A) (i : ℕ) (x : A) → i < length xs → x ≡ get_or xs i x → xs ≡ take i xs ++ x ∷ drop (i + 1) xs
parts_at xs i x below here =
    sym (take-append-drop (i + 1) xs) ∙ ap (λ first. first ++ drop (i + 1) xs) (take_more xs i x below)
    ∙ append_assoc (take i xs) (get_or xs i x ∷ []) (drop (i + 1) xs)
    ∙ ap (λ y. take i xs ++ y ∷ drop (i + 1) xs) (sym here)

-- if the words before `word` name properties and `word` doesn't, it is the first unknown word
pub first_unknown : (parts : List SortBy) (words : List (List ℕ)) (i : ℕ) (word : List ℕ) → i < length words
    → word ≡ get_or words i word → map Some parts ≡ map part_named (take i words) → part_named word ≡ None → IsFirstUnknown words word
first_unknown parts words i word below here so_far unknown = record {
  before = take i words;
  after = drop (i + 1) words;
  is = parts_at words i word below here;
  known = known parts (take i words) so_far;
  unknown = unknown;
}

-- an order has at most four properties
few : (order : Order) → length (order_parts order) ≤ 4
few File = omega arith
few (One a) = omega arith
few (Two a b) = omega arith
few (Three a b c) = omega arith
few (Four a b c d) = omega arith

-- a fifth word that names a property is one too many
pub too_many : (order : Order) (words : List (List ℕ)) (i : ℕ) (word : List ℕ) (part : SortBy) → i < length words
    → word ≡ get_or words i word → map Some (order_parts order) ≡ map part_named (take i words) → part_named word ≡ Some part
    → 4 ≤ length (order_parts order) → AreTooMany words
too_many order words i word part below here so_far names full =
    let least = few order in
    let counted : length (order_parts order) ≡ i =
    sym (length-map (order_parts order) Some) ∙ ap length so_far ∙ length-map (take i words) part_named
    ∙ length-take-le i words (omega arith) in
    let one : is_part word ≡ true = ap is_some names in
    let all : list_all is_part (take (i + 1) words) ≡ true =
    ap (list_all is_part) (take_more words i word below) ∙ list_all-append is_part (take i words) (get_or words i word ∷ [])
    ∙ ap₂ (λ a b. a && (b && true)) (known (order_parts order) (take i words) so_far) (ap is_part (sym here) ∙ one) in
    let five : i + 1 ≡ 5 = omega arith in
    record { more = omega arith; known = subst (λ n. list_all is_part (take n words) ≡ true) five all }
