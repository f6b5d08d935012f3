use Rattle.std.proofs.Common.{◌≡◌, ◌&&◌, Bool, false, not, map, [], sym, ◌∙◌, subst, append-nil}
use Rattle.bib_queries.specs.Sets.{is_in_set}
use Rattle.bib_syntax.specs.Views.{entry_reading_of}
use Rattle.bib_syntax.specs.Reading.{EntryReading}
use Rattle.edit_entries.specs.EditList.{edit_of}
use Rattle.edit_entries.specs.RemovalLists.{AreRemovalsAdded, entry_if}
use Rattle.edit_entries.specs.Selected.{AreRemovals}
use Rattle.edit_entries.proofs.firsts.push_first_removal.Goals as goal

pub returns-else-branch-clause-made : goal.returns-else-branch-clause-made
returns-else-branch-clause-made c =
    let e : EntryReading = entry_reading_of c.args.entry.now in
    let passes : Bool = is_in_set c.args.keys.now e.key.text && not (is_in_set c.args.found.now e.key.text) in
    let other : passes ≡ false = sym c.in_ok-is_found_first.ensures.is ∙ c.if-branch.false in
    let edits = map edit_of c.args.edits.now.items in
    subst (λ b. AreRemovalsAdded c.args.text.now (entry_if b e) edits edits) (sym other)
    (record { edits = []; removals = AreRemovals.none; are = sym (append-nil edits) })
