-- The items of a document have only one sorted order.
use Rattle.std.proofs.Common.{◌≡◌, inl, inr, ℕ, zero, suc, ◌+◌, ◌<◌, ◌≤◌, true, false, List, [], ◌∷◌, get_or, length, sym, ap, ◌∙◌, subst, arith}
use Rattle.std.specs.List.{AllByRecursion, Contains}
use Rattle.std.specs.List.Sorted.{IsPermutation, IsSortedBy}
use Rattle.std.specs.Ordering.{MatchOrdering, is_lt, nat_cmp, ordering_reverse, ordering_then}
use Rattle.std.specs.declared.cmp.Ordering.{Ordering}
use Rattle.std.specs.declared.cmp.Ordering.TheVariants.{Less, Equal, Greater}
use Rattle.std.specs.Cmp.{ranks}
use Rattle.std.proofs.lemmas.Bool.{cases_lt}
use Rattle.std.proofs.lemmas.List.{get_or_default}
use Rattle.std.proofs.lemmas.List.Elements.{All-contains_itself, recursion_from_All}
use Rattle.std.proofs.lemmas.List.Sorted.{All-permutation, IsPermutation-sym, IsPermutation-trans, ranks_by, sorted_far}
use Rattle.bib_syntax.specs.Reading.{EntryReading}
use Rattle.edit_entries.specs.Documents.{Document, IsDocument}
use Rattle.edit_sort.specs.Cuts.{AreItemsCut}
use Rattle.edit_sort.specs.Sorted.{AreEntriesInOrder, Item, gap_before, item_cmp, items}
use Rattle.edit_sort.specs.Steps.{items_from, run_after}
use Rattle.edit_sort.proofs.FileFacts.{document_parts}
use Rattle.edit_sort.proofs.OrderFacts.{item_total}
use Rattle.edit_sort.proofs.SameOrderFacts.{AreUp, same_order}
use Rattle.edit_sort.proofs.StepFacts.{items_are}

-- ---- each entry begins after the entries before it

starts_above : (all : List EntryReading) (text places : List ℕ) (index at run : ℕ)
    (es : List EntryReading) → AreItemsCut text index at es → (k : ℕ) (i : Item)
    → k < length (items_from all text places index at run es)
    → at ≤ (get_or (items_from all text places index at run es) k i).entry.start
starts_above all text places index at run [] cut k i within = absurd (omega arith)
starts_above all text places index at run (e ∷ es) cut zero i within = cut.0.gap.ordered
starts_above all text places index at run (e ∷ es) cut (suc k) i within =
    omega (
      arith,
      cut.0.gap.ordered,
      cut.0.some,
      starts_above all text places (index + 1) (e.end + 1) (run_after run (gap_before text at e)) es cut.1 k i
          (omega arith),
    )

starts_rise : (all : List EntryReading) (text places : List ℕ) (index at run : ℕ)
    (es : List EntryReading) → AreItemsCut text index at es → (k j : ℕ) (i : Item) → k < j
    → j < length (items_from all text places index at run es)
    → (get_or (items_from all text places index at run es) k i).entry.start
    < (get_or (items_from all text places index at run es) j i).entry.start
starts_rise all text places index at run [] cut k j i less within = absurd (omega arith)
starts_rise all text places index at run (e ∷ es) cut k zero i less within = absurd (omega arith)
starts_rise all text places index at run (e ∷ es) cut zero (suc j) i less within =
    omega (
      arith,
      cut.0.some,
      starts_above all text places (index + 1) (e.end + 1) (run_after run (gap_before text at e)) es cut.1 j i
          (omega arith),
    )
starts_rise all text places index at run (e ∷ es) cut (suc k) (suc j) i less within =
    starts_rise all text places (index + 1) (e.end + 1) (run_after run (gap_before text at e)) es cut.1 k j i (omega arith) (omega arith)

-- items that begin at the same offset are equal
abbrev AreOneByStart : List Item → Type 0
AreOneByStart all = (x y : Item) → Contains all x → Contains all y → x.entry.start ≡ y.entry.start → x ≡ y

one_by_start : (all : List Item)
    → ((k j : ℕ) (i : Item) → k < j → j < length all → (get_or all k i).entry.start < (get_or all j i).entry.start)
    → AreOneByStart all
one_by_start all rise x y there there' same =
    let y_is : get_or all there'.0 x ≡ y = get_or_default all there'.0 x y there'.1 ∙ there'.2 in
    elim (cases_lt there.0 there'.0) [
      | inl before ↦ absurd
          (omega (
            arith,
            rise there.0 there'.0 x before there'.1,
            ap (λ i. i.entry.start) there.2,
            ap (λ i. i.entry.start) y_is,
          ))
      | inr not_before ↦ elim (cases_lt there'.0 there.0) [
        | inl after ↦ absurd
            (omega (
              arith,
              rise there'.0 there.0 x after there.1,
              ap (λ i. i.entry.start) there.2,
              ap (λ i. i.entry.start) y_is,
            ))
        | inr not_after ↦
            let index : there.0 ≡ there'.0 = omega arith in
            sym there.2 ∙ ap (λ k. get_or all k x) index ∙ y_is
      ]
    ]

-- ---- items that tie

then_last : (a b : Ordering) → ordering_then a b ≡ Equal → b ≡ Equal
then_last Less b is = absurd (cc)
then_last Equal b is = is
then_last Greater b is = absurd (cc)

tied_start : (x y : Item) → item_cmp x y ≡ Equal → x.entry.start ≡ y.entry.start
tied_start x y is =
    let by_start = nat_cmp x.entry.start y.entry.start in
    let by_place = nat_cmp x.place y.place in
    let by_rank = nat_cmp x.rank y.rank in
    let last : by_start ≡ Equal =
    then_last by_place by_start
    (then_last by_rank (ordering_then by_place by_start)
    (then_last (nat_cmp x.run y.run) (ordering_then by_rank (ordering_then by_place by_start)) is)) in
    subst
    (λ o.
    MatchOrdering o (x.entry.start < y.entry.start) (x.entry.start ≡ y.entry.start)
    (y.entry.start < x.entry.start)) last (ranks x.entry.start y.entry.start)

neither : (r s : Ordering) → r ≡ ordering_reverse s → is_lt r ≡ false → is_lt s ≡ false → r ≡ Equal
neither r Less back is is' = absurd (let clash : true ≡ false = is' in cc)
neither r Equal back is is' = back
neither r Greater back is is' = absurd (let clash : true ≡ false = sym (ap is_lt back) ∙ is in cc)

-- ---- sorted items, one by one

abbrev pub IsNotAfter : Item → Item → Type 0
IsNotAfter x y = is_lt (item_cmp y x) ≡ false

all_from : (P : Item → Type 0) (xs : List Item) (d : Item) → ((k : ℕ) → k < length xs → P (get_or xs k d)) → AllByRecursion P xs
all_from P [] d each = tt
all_from P (x ∷ xs) d each = (each 0 (omega arith), all_from P xs d (λ k within. each (suc k) (omega arith)))

pub up_from : (xs : List Item) → IsSortedBy (λ x y. is_lt (item_cmp x y)) xs → AreUp IsNotAfter xs
up_from [] sorted = tt
up_from (x ∷ xs) sorted = (
  all_from (IsNotAfter x) xs x
      (λ k within.
      sorted_far (λ y z. is_lt (item_cmp y z)) (ranks_by item_total {X = Item} (λ i. i)) (x ∷ xs) sorted 0 (suc k) x
      (omega arith) (omega arith)),
  up_from xs
      (λ k d from within.
      let next : suc k + 1 ≡ suc (k + 1) = omega arith in
      subst (λ n. is_lt (item_cmp (get_or (x ∷ xs) n d) (get_or xs k d)) ≡ false) next (sorted (suc k) d (omega arith) (omega arith))),
)

-- ---- the items of a document

pub starts_in_order : (d : Document) (places : List ℕ) → IsDocument d → (k j : ℕ) (i : Item) → k < j
    → j < length (items d places) → (get_or (items d places) k i).entry.start < (get_or (items d places) j i).entry.start
starts_in_order d places read =
    subst
    (λ l. (k j : ℕ) (i : Item) → k < j → j < length l → (get_or l k i).entry.start < (get_or l j i).entry.start)
    (sym (items_are d places))
    (starts_rise d.says.entries d.text places 0 0 0 d.says.entries (document_parts d read).cut)

pub one_order : (d : Document) (places : List ℕ) (first second : List Item) → IsDocument d
    → AreEntriesInOrder (items d places) first → AreEntriesInOrder (items d places) second → first ≡ second
one_order d places first second read in_order in_order' =
    let all = items d places in
    let one = one_by_start all (starts_in_order d places read) in
    let tie =
    λ (x y : Item) (known : Contains all x) (known' : Contains all y) (up : IsNotAfter x y) (up' : IsNotAfter y x).
    one x y known known'
    (tied_start x y (neither (item_cmp x y) (item_cmp y x) (item_total.antisymm x y) up' up)) in
    let each =
    λ (order : List Item) (permutation : IsPermutation all order).
    recursion_from_All (Contains all) order
    (All-permutation (Contains all) all order permutation (All-contains_itself all)) in
    same_order (λ i. i.entry.start) (Contains all) IsNotAfter one tie first second (up_from first in_order.sorted)
    (up_from second in_order'.sorted) (each first in_order.permutation) (each second in_order'.permutation)
    (IsPermutation-trans first all second (IsPermutation-sym all first in_order.permutation) in_order'.permutation)
