use Rattle.std.proofs.Common.{◌≡◌, Bool, true, false, cond, ◌+◌, List, [], ◌∷◌, ◌++◌, drop, map, refl, sym, ap, ◌∙◌, subst, arith, append-nil}
use Rattle.std.specs.Prelude.{filter}
use Rattle.std.specs.List.{AllByRecursion}
use Rattle.std.proofs.lemmas.List.{drop_more, drop_all}
use Rattle.bib_queries.specs.Sets.{is_in_set}
use Rattle.bib_syntax.specs.Views.{entry_reading_of}
use Rattle.edit_entries.specs.EditList.{edit_of}
use Rattle.edit_entries.specs.Placed.{IsEntryPlaced}
use Rattle.edit_entries.specs.Selected.{AreRemovals, has_selected_key}
use Rattle.edit_entries.proofs.RemovalListFacts.{removals_added}
use Rattle.edit_entries.proofs.selected.removals.Goals as goal

-- a filtered list is the filtered first element and then the filtered rest
filter_first : {A : Type 0} (test : A → Bool) (x : A) (xs : List A) → filter test (x ∷ xs) ≡ filter test (x ∷ []) ++ filter test xs
filter_first test x xs = by_case (test x)
  where
    by_case : (b : Bool) → cond b (x ∷ filter test xs) (filter test xs) ≡ cond b (x ∷ []) [] ++ filter test xs
    by_case true = refl
    by_case false = refl

pub entries-preserved : goal.entries-preserved
entries-preserved c =
    let xs = c.args.entries.now in
    let i = c.entries.entry-index in
    let x = c.entry-item.result in
    let test = has_selected_key (is_in_set c.args.keys.now) in
    let cut : map entry_reading_of (drop i xs) ≡ entry_reading_of x ∷ map entry_reading_of (drop (i + 1) xs) =
    ap (map entry_reading_of) (drop_more xs i x c.entries-test.true ∙ ap (λ y. y ∷ drop (i + 1) xs) (sym c.entry-item.is)) in
    let parts = ap (filter test) cut ∙ filter_first test (entry_reading_of x) (map entry_reading_of (drop (i + 1) xs)) in
    record {
      made = λ more following.
          removals_added c.args.text.now (filter test (map entry_reading_of xs)) (filter test (entry_reading_of x ∷ []))
          (filter test (map entry_reading_of (drop (i + 1) xs))) (map edit_of c.entries.edits.items)
          (map edit_of c.push_removal.new.edits.items) more c.in_ok-push_removal.ensures
          (λ edits all. c.entries.invariant.made edits (subst (λ es. AreRemovals c.args.text.now es edits) (sym parts) all)) following;
      placed = (subst (AllByRecursion (IsEntryPlaced c.args.text.now)) cut c.entries.invariant.placed).1;
    }

pub returns : goal.returns
returns c =
    let xs = c.args.entries.now in
    let none : drop c.entries.entry-index xs ≡ [] = drop_all c.entries.entry-index xs (omega (arith, c.entries-test.false)) in
    let edits = map edit_of c.entries.edits.items in
    let test = has_selected_key (is_in_set c.args.keys.now) in
    subst (λ l. AreRemovals c.args.text.now (filter test (map entry_reading_of xs)) l) (append-nil edits)
    (c.entries.invariant.made []
    (subst (λ l. AreRemovals c.args.text.now (filter test (map entry_reading_of l)) []) (sym none) AreRemovals.none))
