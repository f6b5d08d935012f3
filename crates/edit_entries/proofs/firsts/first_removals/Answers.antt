use Rattle.std.proofs.Common.{◌≡◌, inr, refl, Bool, ◌&&◌, ◌||◌, ◌+◌, ◌++◌, ◌∷◌, List, ℕ, [], not, drop, map, take, sym, ap, ◌∙◌, subst, arith, append-nil}
use Rattle.std.specs.Prelude.{bytes_eq}
use Rattle.std.specs.List.{AllByRecursion, list_any}
use Rattle.std.proofs.lemmas.List.{drop_more, drop_all, take_all}
use Rattle.bib_text.proofs.ListFacts.{mapped_more}
use Rattle.bib_queries.specs.Sets.{is_in_set}
use Rattle.bib_syntax.specs.Reading.{EntryReading}
use Rattle.bib_syntax.specs.Views.{entry_reading_of}
use Rattle.edit_entries.specs.Documents.{is_keyed}
use Rattle.edit_entries.specs.EditList.{edit_of}
use Rattle.edit_entries.specs.Placed.{IsEntryPlaced}
use Rattle.edit_entries.specs.RemovalLists.{AreRemovalsAdded, entry_if}
use Rattle.edit_entries.specs.Selected.{AreRemovals, is_first_with, passing_after}
use Rattle.edit_entries.proofs.FirstFacts.{all_found_keys, all_none, first_now, found_more, passing_first}
use Rattle.edit_entries.proofs.RemovalListFacts.{removals_added}
use Rattle.edit_entries.proofs.firsts.first_removals.Goals as goal

pub entries-preserved : goal.entries-preserved
entries-preserved c =
    let xs = c.args.entries.now in
    let i = c.entries.entry-index in
    let x = c.entry-item.result in
    let e : EntryReading = entry_reading_of x in
    let text = c.args.text.now in
    let keys : List (List ℕ) = map (λ k. k.now) c.args.keys.now in
    let test : List EntryReading → EntryReading → Bool = is_first_with keys in
    let before : List EntryReading = map entry_reading_of (take i xs) in
    let rest : List EntryReading = map entry_reading_of (drop (i + 1) xs) in
    let listed = is_in_set c.in_ok-set.set in
    let cut : map entry_reading_of (drop i xs) ≡ e ∷ rest =
    ap (map entry_reading_of) (drop_more xs i x c.entries-test.true ∙ ap (λ y. y ∷ drop (i + 1) xs) (sym c.entry-item.is)) in
    let longer : map entry_reading_of (take (i + 1) xs) ≡ before ++ e ∷ [] =
    mapped_more entry_reading_of xs i x c.entries-test.true c.entry-item.is in
    let passes : (listed e.key.text && not (is_in_set c.entries.found e.key.text)) ≡ test before e =
    ap (λ b. listed e.key.text && not b) (c.entries.invariant.found e.key.text)
    ∙ first_now (listed e.key.text) (list_any (is_keyed e.key.text) before)
    ∙ ap (λ b. b && not (list_any (is_keyed e.key.text) before)) (c.in_ok-set.ensures e.key.text) in
    let parts : passing_after test before (map entry_reading_of (drop i xs))
    ≡ entry_if (test before e) e ++ passing_after test (before ++ e ∷ []) rest =
    ap (passing_after test before) cut ∙ passing_first test before rest e in
    record {
      made = λ more following.
          removals_added text (passing_after test [] (map entry_reading_of xs)) (entry_if (test before e) e)
          (passing_after test (before ++ e ∷ []) rest) (map edit_of c.entries.edits.items)
          (map edit_of c.push_first_removal.new.edits.items) more
          (subst
          (λ b. AreRemovalsAdded text (entry_if b e) (map edit_of c.entries.edits.items)
          (map edit_of c.push_first_removal.new.edits.items)) passes c.in_ok-push_first_removal.ensures.made)
          (λ edits all. c.entries.invariant.made edits (subst (λ es. AreRemovals text es edits) (sym parts) all))
          (subst (λ es. AreRemovals text (passing_after test es rest) more) longer following);
      found = λ name.
          c.in_ok-push_first_removal.ensures.found name
          ∙ ap (λ b. b || (listed e.key.text && bytes_eq e.key.text name)) (c.entries.invariant.found name)
          ∙ found_more listed before e name
          ∙ ap (λ es. listed name && list_any (is_keyed name) es) (sym longer);
      placed = (subst (AllByRecursion (IsEntryPlaced text)) cut c.entries.invariant.placed).1;
    }

-- after the last entry, all listed keys are found exactly if each is that of an entry
pub returns-then-lacks_one-clause-refused : goal.returns-then-lacks_one-clause-refused
returns-then-lacks_one-clause-refused c =
    let xs = c.args.entries.now in
    let keys : List (List ℕ) = map (λ k. k.now) c.args.keys.now in
    let all = take_all c.entries.entry-index xs (omega (arith, c.entries-test.false)) in
    let listed = is_in_set c.in_ok-set.set in
    inr (
      refl,
      sym
          (all_found_keys (is_in_set c.entries.found) listed (map entry_reading_of xs) keys c.in_ok-set.ensures
          (λ key.
          c.entries.invariant.found key
          ∙ ap (λ l. listed key && list_any (is_keyed key) (map entry_reading_of l)) all))
          ∙ all_none (is_in_set c.entries.found) keys ∙ ap not (sym c.lacks_one.ensures ∙ c.if-lacks_one.true),
    )

pub returns-clause-made : goal.returns-clause-made
returns-clause-made c =
    let xs = c.args.entries.now in
    let i = c.entries.entry-index in
    let none : drop i xs ≡ [] = drop_all i xs (omega (arith, c.entries-test.false)) in
    let edits = map edit_of c.entries.edits.items in
    let text = c.args.text.now in
    let test : List EntryReading → EntryReading → Bool = is_first_with (map (λ k. k.now) c.args.keys.now) in
    subst (λ l. AreRemovals text (passing_after test [] (map entry_reading_of xs)) l) (append-nil edits)
    (c.entries.invariant.made []
    (subst (λ l. AreRemovals text (passing_after test (map entry_reading_of (take i xs)) (map entry_reading_of l)) []) (sym none)
    AreRemovals.none))

pub returns-clause-found : goal.returns-clause-found
returns-clause-found c =
    let xs = c.args.entries.now in
    let keys : List (List ℕ) = map (λ k. k.now) c.args.keys.now in
    let all = take_all c.entries.entry-index xs (omega (arith, c.entries-test.false)) in
    let listed = is_in_set c.in_ok-set.set in
    sym
    (all_found_keys (is_in_set c.entries.found) listed (map entry_reading_of xs) keys c.in_ok-set.ensures
    (λ key.
    c.entries.invariant.found key
    ∙ ap (λ l. listed key && list_any (is_keyed key) (map entry_reading_of l)) all))
    ∙ all_none (is_in_set c.entries.found) keys ∙ ap not (sym c.lacks_one.ensures ∙ c.if-lacks_one.false)
