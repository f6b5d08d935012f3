-- A parent that is neither on a cycle nor after one comes after the entries of its run that name it.
use Rattle.std.proofs.Common.{◌≡◌, inl, inr, ℕ, zero, suc, ◌+◌, ◌<◌, ◌≤◌, true, false, List, [], ◌∷◌, Some, None, get_or, length, refl, sym, ap, ◌∙◌, subst, arith}
use Rattle.std.specs.Prelude.{slice_get}
use Rattle.std.specs.List.{AllByRecursion, Contains}
use Rattle.std.specs.Ordering.{is_lt, nat_cmp, ordering_then}
use Rattle.std.specs.declared.cmp.Ordering.TheVariants.{Less, Equal}
use Rattle.std.specs.Cmp.{nat_cmp_is}
use Rattle.std.proofs.lemmas.Bool.{cases_lt}
use Rattle.std.proofs.lemmas.List.Elements.{All-contains_itself, All-from_recursion, recursion_from_All}
use Rattle.std.proofs.lemmas.List.Sorted.{All-permutation, ranks_by, sorted_far}
use Rattle.std.proofs.lemmas.Option.{get_or_from_slice_get, slice_get_within}
use Rattle.bib_syntax.specs.Reading.{EntryReading}
use Rattle.edit_entries.specs.Documents.{Document}
use Rattle.edit_sort.specs.Sorted.{AreEntriesInOrder, IsAfterCycle, Item, gap_before, has_chain, item_cmp, items, rank, refers_to}
use Rattle.edit_sort.specs.Steps.{items_from, run_after}
use Rattle.edit_sort.proofs.ChainFacts.{chain_after, no_long_chain}
use Rattle.edit_sort.proofs.GreatestFacts.{greatest_least, greatest_passes, greatest_small}
use Rattle.edit_sort.proofs.OrderFacts.{item_total}
use Rattle.edit_sort.proofs.StepFacts.{listed, listed_order}

-- ---- ranks

-- a chain of as many references as its rank leads to each entry
chain_of_rank : (entries : List EntryReading) (e : EntryReading) → has_chain entries (rank entries e) e ≡ true
chain_of_rank entries e =
    elim (greatest_passes (λ n. has_chain entries n e) (length entries)) [
      | inl none ↦ ap (λ n. has_chain entries n e) none
      | inr passes ↦ passes
    ]

-- a child has a smaller rank than its parent, if the parent is neither on a cycle nor after one
rank_rises : (entries : List EntryReading) (child parent : EntryReading) → Contains entries child
    → refers_to parent.key.text child ≡ true → (IsAfterCycle entries parent → ⊥) → rank entries child < rank entries parent
rank_rises entries child parent there refers fine =
    let chain = chain_after entries (rank entries child) child parent there refers (chain_of_rank entries child) in
    elim (cases_lt (rank entries child) (length entries)) [
      | inl below ↦
          let more : suc (rank entries child) ≤ rank entries parent =
          greatest_least (λ n. has_chain entries n parent) (length entries) (suc (rank entries child)) (omega arith) chain in
          omega arith
      | inr full ↦
          let most : rank entries child ≡ length entries =
          omega (arith, greatest_small (λ n. has_chain entries n child) (length entries)) in
          absurd (no_long_chain entries parent fine (subst (λ n. has_chain entries (suc n) parent ≡ true) most chain))
    ]

-- ---- items

-- an item has the rank of its entry, which is one of `all`
pub record IsKnown (all : List EntryReading) (i : Item) : Type 0 where
  pub ranked : i.rank ≡ rank all i.entry
  pub there : Contains all i.entry

known_from : (all : List EntryReading) (text places : List ℕ) (index at run : ℕ) (es : List EntryReading)
    → AllByRecursion (Contains all) es → AllByRecursion (IsKnown all) (items_from all text places index at run es)
known_from all text places index at run [] there = tt
known_from all text places index at run (e ∷ es) there = (
  record { ranked = refl; there = there.0 },
  known_from all text places (index + 1) (e.end + 1) (run_after run (gap_before text at e)) es there.1,
)

-- an item comes before one of the same run with a greater rank
before_rank : (x y : Item) → x.run ≡ y.run → x.rank < y.rank → is_lt (item_cmp x y) ≡ true
before_rank x y same less =
    let run : nat_cmp x.run y.run ≡ Equal = sym (nat_cmp_is x.run y.run Equal same) in
    let rank : nat_cmp x.rank y.rank ≡ Less = sym (nat_cmp_is x.rank y.rank Less less) in
    let last = ordering_then (nat_cmp x.place y.place) (nat_cmp x.entry.start y.entry.start) in
    ap (λ o. is_lt (ordering_then o (ordering_then (nat_cmp x.rank y.rank) last))) run ∙ ap (λ o. is_lt (ordering_then o last)) rank

pub known_items : (d : Document) (places : List ℕ) (order : List Item) → AreEntriesInOrder (items d places) order
    → AllByRecursion (IsKnown d.says.entries) order
known_items d places order in_order =
    let all = d.says.entries in
    recursion_from_All (IsKnown all) order
    (All-permutation (IsKnown all) (listed d places) order (listed_order d places order in_order).permutation
    (All-from_recursion (IsKnown all) (listed d places)
    (known_from all d.text places 0 0 0 all (recursion_from_All (Contains all) all (All-contains_itself all)))))

pub parents_follow : (d : Document) (places : List ℕ) (order : List Item) (i j : ℕ) (parent child : Item)
    → AreEntriesInOrder (items d places) order → slice_get order i ≡ Some parent → slice_get order j ≡ Some child
    → child.run ≡ parent.run → refers_to parent.entry.key.text child.entry ≡ true
    → (IsAfterCycle d.says.entries parent.entry → ⊥) → j < i
parents_follow d places order i j parent child in_order at_i at_j run refers fine =
    let all = d.says.entries in
    let known = known_items d places order in_order in
    let parent_known = known_at all order i parent known at_i in
    let child_known = known_at all order j child known at_j in
    let less : child.rank < parent.rank =
    omega (
      arith,
      child_known.ranked,
      parent_known.ranked,
      rank_rises all child.entry parent.entry child_known.there refers fine,
    ) in
    elim (cases_lt j i) [
      | inl before ↦ before
      | inr past ↦
          let far =
          sorted_far (λ x y. is_lt (item_cmp x y)) (ranks_by item_total {X = Item} (λ x. x)) order in_order.sorted i
          j parent past (slice_get_within order j child at_j) in
          let clash : true ≡ false =
          sym (before_rank child parent run less)
          ∙ ap (λ x. is_lt (item_cmp x parent)) (sym (get_or_from_slice_get order j child parent at_j))
          ∙ ap (λ x. is_lt (item_cmp (get_or order j parent) x)) (sym (get_or_from_slice_get order i parent parent at_i)) ∙ far in
          absurd (cc)
    ]
  where
    known_at : (all : List EntryReading) (xs : List Item) (k : ℕ) (x : Item) → AllByRecursion (IsKnown all) xs
        → slice_get xs k ≡ Some x → IsKnown all x
    known_at all [] k x known here = absurd (let clash : None ≡ Some x = here in cc)
    known_at all (y ∷ ys) zero x known here = let same : y ≡ x = cc in subst (IsKnown all) same known.0
    known_at all (y ∷ ys) (suc k) x known here = known_at all ys k x known.1 here
