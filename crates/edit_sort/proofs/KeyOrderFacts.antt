-- Entries with one key keep their order.
use Rattle.std.proofs.Common.{◌≡◌, inl, inr, ℕ, zero, suc, ◌<◌, ◌≤◌, true, false, List, [], ◌∷◌, Some, get_or, length, map, slice_get, sym, ap, ◌∙◌, subst, arith}
use Rattle.std.specs.Cmp.{nat_cmp_is}
use Rattle.std.specs.List.{All, Contains}
use Rattle.std.specs.Ordering.{is_lt, nat_cmp, ordering_then}
use Rattle.std.specs.declared.cmp.Ordering.TheVariants.{Less, Equal}
use Rattle.std.proofs.lemmas.Bool.{cases_lt}
use Rattle.std.proofs.lemmas.List.{get_or-map, get_or_default, length-map}
use Rattle.std.proofs.lemmas.List.Elements.{All-contains_itself, All-from_recursion}
use Rattle.std.proofs.lemmas.List.Sorted.{All-permutation, ranks_by, sorted_far}
use Rattle.std.proofs.lemmas.Option.{get_or_from_slice_get, slice_get_within}
use Rattle.edit_entries.specs.Documents.{Document, IsDocument}
use Rattle.edit_sort.specs.Sorted.{AreEntriesInOrder, Item, has_key_of, item_cmp, items}
use Rattle.edit_sort.proofs.FirstFacts.{IsPlaced, place_of_one_key, placed_items, rank_of_one_key}
use Rattle.edit_sort.proofs.OneOrderFacts.{starts_in_order}
use Rattle.edit_sort.proofs.OrderFacts.{item_total}
use Rattle.edit_sort.proofs.ParentFacts.{IsKnown, known_items}
use Rattle.edit_sort.proofs.SameOrderFacts.{AreUp}
use Rattle.edit_sort.proofs.StepFacts.{items_are}
use Rattle.edit_sort.proofs.TwiceFacts.{runs_up}

-- ---- runs

up_at : (xs : List ℕ) → AreUp (λ m n. m ≤ n) xs → (k j d : ℕ) → k < j → j < length xs → get_or xs k d ≤ get_or xs j d
up_at [] up k j d less within = absurd (omega arith)
up_at (x ∷ xs) up k zero d less within = absurd (omega arith)
up_at (x ∷ xs) up zero (suc j) d less within = All-from_recursion (λ n. x ≤ n) xs up.0 j d (omega arith)
up_at (x ∷ xs) up (suc k) (suc j) d less within = up_at xs up.1 k j d (omega arith) (omega arith)

run_up_at : (xs : List Item) → AreUp (λ m n. m ≤ n) (map (λ i. i.run) xs) → (k j : ℕ) (i : Item) → k < j → j < length xs
    → (get_or xs k i).run ≤ (get_or xs j i).run
run_up_at xs up k j i less within =
    let rise = up_at (map (λ x. x.run) xs) up k j 0 less (omega (arith, length-map xs (λ x. x.run), within)) in
    omega (
      arith,
      rise,
      get_or-map (λ x. x.run) xs k i 0 (omega arith),
      get_or-map (λ x. x.run) xs j i 0 within,
    )

-- no item has a greater run than one that begins after it
run_before : (d : Document) (places : List ℕ) (x y : Item) → IsDocument d → Contains (items d places) x → Contains (items d places) y
    → x.entry.start < y.entry.start → x.run ≤ y.run
run_before d places x y read there there' less =
    let all = items d places in
    let y_is : get_or all there'.0 x ≡ y = get_or_default all there'.0 x y there'.1 ∙ there'.2 in
    let up : AreUp (λ m n. m ≤ n) (map (λ (i : Item). i.run) all) =
    subst (λ l. AreUp (λ m n. m ≤ n) (map (λ (i : Item). i.run) l)) (sym (items_are d places))
    (runs_up d.says.entries d.text places 0 0 0 d.says.entries) in
    elim (cases_lt there.0 there'.0) [
      | inl before ↦
          let rise = run_up_at all up there.0 there'.0 x before there'.1 in
          omega (arith, rise, ap (λ i. i.run) there.2, ap (λ i. i.run) y_is)
      | inr not_before ↦ elim (cases_lt there'.0 there.0) [
        | inl after ↦ absurd
            (omega (
              arith,
              less,
              starts_in_order d places read there'.0 there.0 x after there.1,
              ap (λ i. i.entry.start) there.2,
              ap (λ i. i.entry.start) y_is,
            ))
        | inr not_after ↦
            let index : there.0 ≡ there'.0 = omega arith in
            let same : x ≡ y = sym there.2 ∙ ap (λ k. get_or all k x) index ∙ y_is in
            absurd (omega (arith, less, ap (λ i. i.entry.start) same))
      ]
    ]

-- ---- the order

before_start : (x y : Item) → x.run ≤ y.run → x.rank ≡ y.rank → x.place ≡ y.place → x.entry.start < y.entry.start
    → is_lt (item_cmp x y) ≡ true
before_start x y run rank place less =
    let by_rank = nat_cmp x.rank y.rank in
    let by_place = nat_cmp x.place y.place in
    let by_start = nat_cmp x.entry.start y.entry.start in
    let last = ordering_then by_rank (ordering_then by_place by_start) in
    elim (cases_lt x.run y.run) [
      | inl before ↦
          let first : nat_cmp x.run y.run ≡ Less = sym (nat_cmp_is x.run y.run Less before) in
          ap (λ o. is_lt (ordering_then o last)) first
      | inr past ↦
          let same : x.run ≡ y.run = omega arith in
          let first : nat_cmp x.run y.run ≡ Equal = sym (nat_cmp_is x.run y.run Equal same) in
          let second : by_rank ≡ Equal = sym (nat_cmp_is x.rank y.rank Equal rank) in
          let third : by_place ≡ Equal = sym (nat_cmp_is x.place y.place Equal place) in
          let fourth : by_start ≡ Less = sym (nat_cmp_is x.entry.start y.entry.start Less less) in
          ap (λ o. is_lt (ordering_then o last)) first ∙ ap (λ o. is_lt (ordering_then o (ordering_then by_place by_start))) second
          ∙ ap (λ o. is_lt (ordering_then o by_start)) third ∙ ap is_lt fourth
    ]

item_at : (P : Item → Type 0) (order : List Item) (k : ℕ) (x : Item) → All P order → slice_get order k ≡ Some x → P x
item_at P order k x all at =
    subst P (get_or_from_slice_get order k x x at) (all k x (slice_get_within order k x at))

pub one_key_keeps_order : (d : Document) (places : List ℕ) (order : List Item) (i j : ℕ) (first second : Item) → IsDocument d
    → AreEntriesInOrder (items d places) order → slice_get order i ≡ Some first → slice_get order j ≡ Some second
    → has_key_of first.entry second.entry ≡ true → first.entry.start < second.entry.start → i < j
one_key_keeps_order d places order i j first second read in_order at_i at_j one less =
    let all = d.says.entries in
    let there = All-permutation (Contains (items d places)) (items d places) order in_order.permutation
    (All-contains_itself (items d places)) in
    let placed = All-from_recursion (IsPlaced all places) order (placed_items d places order in_order) in
    let known = All-from_recursion (IsKnown all) order (known_items d places order in_order) in
    let known_first = item_at (IsKnown all) order i first known at_i in
    let known_second = item_at (IsKnown all) order j second known at_j in
    let run =
    run_before d places first second read (item_at (Contains (items d places)) order i first there at_i)
    (item_at (Contains (items d places)) order j second there at_j) less in
    let rank : first.rank ≡ second.rank =
    known_first.ranked ∙ rank_of_one_key all first.entry second.entry one ∙ sym known_second.ranked in
    let place =
    place_of_one_key all places first second (item_at (IsPlaced all places) order i first placed at_i)
    (item_at (IsPlaced all places) order j second placed at_j) one in
    elim (cases_lt i j) [
      | inl before ↦ before
      | inr past ↦
          let far =
          sorted_far (λ x y. is_lt (item_cmp x y)) (ranks_by item_total {X = Item} (λ x. x)) order in_order.sorted j
          i second past (slice_get_within order i first at_i) in
          let clash : true ≡ false =
          sym (before_start first second run rank place less)
          ∙ ap (λ x. is_lt (item_cmp x second)) (sym (get_or_from_slice_get order i first second at_i))
          ∙ ap (λ x. is_lt (item_cmp (get_or order i second) x)) (sym (get_or_from_slice_get order j second second at_j)) ∙ far in
          absurd (cc)
    ]
