-- Facts about the places of entries among sorted entries: two places compare as the entries do.
use Rattle.std.proofs.Common.{◌≡◌, inl, inr, ℕ, ◌+◌, ◌<◌, ◌≤◌, Bool, true, false, List, [], ◌∷◌, ◌++◌, Option, get_or, length, map, refl, sym, ap, ◌∙◌, subst, arith, Less, Equal, Greater, Ordering, IsPermutation, IsSorted, Contains, is_lt, nat_cmp}
use Rattle.std.specs.List.Sorted.{IsPartitionPoint, IsPartitionedBy}
use Rattle.std.specs.Cmp.{alike_right, nat_cmp_is}
use Rattle.std.specs.Ordering.{ordering_reverse}
use Rattle.std.proofs.lemmas.Bool.{cases_lt, false≢true}
use Rattle.std.proofs.lemmas.List.{get_or-map, get_or_append_left, get_or_push, length-map}
use Rattle.std.proofs.lemmas.List.Elements.{Contains-get_or}
use Rattle.std.proofs.lemmas.List.Sorted.{Contains-permutation, ranks_by, sorted_far}
use Rattle.std.specs.List.{AllZip}
use Rattle.bib_abbreviations.specs.Abbreviations.{Definitions, definition_in}
use Rattle.bib_syntax.specs.Reading.{EntryReading, FileReading}
use Rattle.edit_orders.specs.Places.{ArePlacesOf, AreValuesOf, IsPlaceIn, ArePlacesIn}
use Rattle.edit_orders.specs.Values.{values_cmp}
use Rattle.edit_orders.specs.declared.order.SortBy.{SortBy}
use Rattle.edit_orders.specs.declared.values.SortValue.{SortValue}
use Rattle.edit_orders.proofs.TotalFacts.{values_total}

abbrev Values : Type 0
Values = List (Option SortValue)

-- if `P` holds for each place in `places` and for one more, it holds for each place of the extended list
pub each_more : (P : ℕ → ℕ → Type 0) (places new : List ℕ) (n i : ℕ) → length places ≡ i → new ≡ places ++ n ∷ [] → P i n
    → ((k : ℕ) → k < i → P k (get_or places k 0)) → (k : ℕ) → k < i + 1 → P k (get_or new k 0)
each_more P places new n i size is here before k within =
    elim (cases_lt k i) [
      | inl below ↦
          subst (P k) (sym (ap (λ l. get_or l k 0) is ∙ get_or_append_left places (n ∷ []) 0 k (omega arith))) (before k below)
      | inr at ↦
          let same : i ≡ k = omega arith in
          subst (λ m. P m (get_or new m 0)) same
          (subst (P i) (sym (ap (λ l. get_or l i 0) is ∙ get_or_push places n 0 i size)) here)
    ]

module _ (order : List SortBy) where
  abbrev cmp : Values → Values → Ordering
  cmp = values_cmp order

  -- an entry isn't less than itself
  not_below : (t : Values) → is_lt (cmp t t) ≡ false
  not_below t = itself (cmp t t) ((values_total order).antisymm t t)
    where
      itself : (o : Ordering) → o ≡ ordering_reverse o → is_lt o ≡ false
      itself Less same = absurd (let clash : Less ≡ Greater = same in cc)
      itself Equal same = refl
      itself Greater same = refl

  -- if an entry among the sorted ones is less than another entry, its place is smaller
  place_rises : (sorted : List Values) (t u : Values) (m n : ℕ) → Contains sorted t → cmp t u ≡ Less
      → IsPlaceIn order sorted t m → IsPlaceIn order sorted u n → m < n
  place_rises sorted t u m n there less p q =
      let k = there.0 in
      let from : m ≤ k = elim (cases_lt k m) [
        | inr past ↦ past
        | inl before ↦
            let below : is_lt (cmp t t) ≡ true = ap (λ x. is_lt (cmp x t)) (sym there.2) ∙ p.before k t (omega arith) before in
            absurd (false≢true (sym (not_below t) ∙ below))
      ] in
      let to : k < n = elim (cases_lt k n) [
        | inl before ↦ before
        | inr past ↦
            let above : is_lt (cmp t u) ≡ false = ap (λ x. is_lt (cmp x u)) (sym there.2) ∙ q.after k t past there.1 in
            absurd (false≢true (sym above ∙ ap is_lt less))
      ] in
      omega arith

  -- no entry has two places of which one is less
  no_gap : (sorted : List Values) (t : Values) (m n : ℕ) → IsPlaceIn order sorted t m → IsPlaceIn order sorted t n → m < n → ⊥
  no_gap sorted t m n p q less =
      false≢true (sym (p.after m t (omega arith) (omega (arith, q.small))) ∙ q.before m t (omega arith) less)

  one_place : (sorted : List Values) (t : Values) (m n : ℕ) → IsPlaceIn order sorted t m → IsPlaceIn order sorted t n → m ≡ n
  one_place sorted t m n p q =
      elim (cases_lt m n) [
        | inl less ↦ absurd (no_gap sorted t m n p q less)
        | inr other ↦ elim (cases_lt n m) [ inl less ↦ absurd (no_gap sorted t n m q p less) | inr both ↦ omega arith ]
      ]

  -- entries that the order doesn't tell apart have the same places
  same_place : (sorted : List Values) (t u : Values) (n : ℕ) → cmp t u ≡ Equal → IsPlaceIn order sorted u n → IsPlaceIn order sorted t n
  same_place sorted t u n tied q = record {
    small = q.small;
    before = λ k d from within. ap is_lt (alike_right (values_total order) t u (get_or sorted k d) tied) ∙ q.before k d from within;
    after = λ k d from within. ap is_lt (alike_right (values_total order) t u (get_or sorted k d) tied) ∙ q.after k d from within;
  }

  -- the places of two entries among the sorted ones compare as the entries do
  places_compare : (sorted : List Values) (t u : Values) (m n : ℕ) → Contains sorted t → Contains sorted u
      → IsPlaceIn order sorted t m → IsPlaceIn order sorted u n → nat_cmp m n ≡ cmp t u
  places_compare sorted t u m n there there' p q = by_order (cmp t u) refl
    where
      by_order : (o : Ordering) → cmp t u ≡ o → nat_cmp m n ≡ o
      by_order Less is = sym (nat_cmp_is m n Less (place_rises sorted t u m n there is p q))
      by_order Equal is = sym (nat_cmp_is m n Equal (one_place sorted t m n p (same_place sorted t u n is q)))
      by_order Greater is =
          let back : cmp u t ≡ Less = (values_total order).antisymm u t ∙ ap ordering_reverse is in
          sym (nat_cmp_is m n Greater (place_rises sorted u t n m there' back q p))

  less_through : (x y z : Values) → is_lt (cmp y x) ≡ false → is_lt (cmp y z) ≡ true → is_lt (cmp x z) ≡ true
  less_through x y z far less = by_test (is_lt (cmp x z)) refl
    where
      by_test : (b : Bool) → is_lt (cmp x z) ≡ b → is_lt (cmp x z) ≡ true
      by_test true is = is
      by_test false is =
          absurd (false≢true (sym ((ranks_by (values_total order) {X = Values} (λ t. t)).chain y x z far is) ∙ less))

  -- the entries that are less than an entry come first among sorted entries
  pub less_first : {X : Type 0} (f : X → Values) (any : Values → X) (xs : List X) (t : Values) → IsSorted cmp (map f xs)
      → IsPartitionedBy (λ x. is_lt (cmp (f x) t)) xs
  less_first f any xs t up i j d ordered within less =
      let size : length (map f xs) ≡ length xs = length-map xs f in
      let far =
      sorted_far (λ x y. is_lt (cmp x y)) (ranks_by (values_total order) {X = Values} (λ x. x)) (map f xs) up i j (f d) ordered
      (omega arith) in
      less_through (f (get_or xs i d)) (f (get_or xs j d)) t
      (ap (λ x. is_lt (cmp x (f (get_or xs i d)))) (sym (get_or-map f xs j d (f d) within))
      ∙ ap (λ x. is_lt (cmp (get_or (map f xs) j (f d)) x)) (sym (get_or-map f xs i d (f d) (omega arith))) ∙ far)
      less

  -- the place of an entry is the index at which the lesser ones end
  pub place_from : {X : Type 0} (f : X → Values) (any : Values → X) (xs : List X) (t : Values) (n : ℕ) → n ≤ length xs
      → IsPartitionPoint (λ x. is_lt (cmp (f x) t) ≡ true) (λ x. is_lt (cmp (f x) t) ≡ false) xs n → IsPlaceIn order (map f xs) t n
  place_from f any xs t n small parts =
      let size : length (map f xs) ≡ length xs = length-map xs f in
      record {
        small = omega arith;
        before = λ k d from below.
            ap (λ x. is_lt (cmp x t)) (get_or-map f xs k (any d) d (omega arith)) ∙ parts.0 k (any d) from below;
        after = λ k d from below.
            ap (λ x. is_lt (cmp x t)) (get_or-map f xs k (any d) d (omega arith)) ∙ parts.1 k (any d) from (omega arith);
      }

  -- if each number is the place of its entry among the sorted entries, then the numbers are places of the entries
  pub are_places : (all sorted : List Values) (places : List ℕ) → IsPermutation all sorted → length places ≡ length all
      → ((k : ℕ) → k < length all → IsPlaceIn order sorted (get_or all k []) (get_or places k 0)) → ArePlacesOf order all places
  are_places all sorted places same size each = record {
    same_length = size;
    compare = λ i j within within'.
        places_compare sorted (get_or all i []) (get_or all j []) (get_or places i 0) (get_or places j 0)
        (Contains-permutation all sorted (get_or all i []) same (Contains-get_or all i [] within))
        (Contains-permutation all sorted (get_or all j []) same (Contains-get_or all j [] within'))
        (each i within) (each j within');
  }

-- the places of the sort values of the entries are the places of the entries
pub placed_by : (says : FileReading) (order parts lent : List SortBy) (d : Definitions) (entries : List EntryReading)
    (all kept : List Values) (places : List ℕ) → parts ≡ order → lent ≡ order → d ≡ definition_in says.abbreviations
    → entries ≡ says.entries → kept ≡ all → AllZip (AreValuesOf d parts) entries all → ArePlacesOf lent kept places
    → ArePlacesIn order says places
placed_by says order parts lent d entries all kept places same again defined listed kept_same values placed = record {
  all = all;
  values =
      subst (λ es. AllZip (AreValuesOf (definition_in says.abbreviations) order) es all) listed
      (subst (λ e. AllZip (AreValuesOf e order) entries all) defined (subst (λ o. AllZip (AreValuesOf d o) entries all) same values));
  placed = subst (λ vs. ArePlacesOf order vs places) kept_same (subst (λ o. ArePlacesOf o kept places) again placed);
}
