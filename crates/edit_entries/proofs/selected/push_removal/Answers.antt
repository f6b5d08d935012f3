use Rattle.std.proofs.Common.{◌≡◌, false, cond, map, [], ◌∷◌, sym, ◌∙◌, subst, append-nil}
use Rattle.bib_queries.specs.Sets.{is_in_set}
use Rattle.bib_syntax.specs.Views.{entry_reading_of}
use Rattle.bib_syntax.specs.Reading.{EntryReading}
use Rattle.edit_entries.specs.EditList.{edit_of}
use Rattle.edit_entries.specs.RemovalLists.{AreRemovalsAdded}
use Rattle.edit_entries.specs.Selected.{AreRemovals, has_selected_key}
use Rattle.edit_entries.proofs.selected.push_removal.Goals as goal

pub returns-else-contains : goal.returns-else-contains
returns-else-contains c =
    let e : EntryReading = entry_reading_of c.args.entry.now in
    let other : has_selected_key (is_in_set c.args.keys.now) e ≡ false = sym c.contains.ensures ∙ c.if-contains.false in
    let edits = map edit_of c.args.edits.now.items in
    subst (λ b. AreRemovalsAdded c.args.text.now (cond b (e ∷ []) []) edits edits) (sym other)
    (record { edits = []; removals = AreRemovals.none; are = sym (append-nil edits) })
