-- Lists of edits that remove entries, one after the other.
use Rattle.std.proofs.Common.{ℕ, List, [], ◌∷◌, ◌++◌, sym, ap, ◌∙◌, subst, append_assoc}
use Rattle.bib_syntax.specs.Reading.{EntryReading}
use Rattle.edit_entries.specs.Edits.{Edit}
use Rattle.edit_entries.specs.RemovalLists.{AreRemovalsAdded}
use Rattle.edit_entries.specs.Selected.{AreRemovals}

removals_append : (text : List ℕ) (es fs : List EntryReading) (edits more : List Edit) → AreRemovals text es edits
    → AreRemovals text fs more → AreRemovals text (es ++ fs) (edits ++ more)
removals_append text [] fs [] more AreRemovals.none second = second
removals_append text [] fs (x ∷ xs) more removals second = elim removals [ ]
removals_append text (e ∷ es) fs [] more removals second = elim removals [ ]
removals_append text (e ∷ es) fs (x ∷ xs) more (AreRemovals.next white rest) second =
    AreRemovals.next white (removals_append text es fs xs more rest second)

-- the edits of some entries, after earlier edits and before those of the following entries, remove all entries
pub removals_added : (text : List ℕ) (all es fs : List EntryReading) (old new more : List Edit) → AreRemovalsAdded text es old new
    → ((edits : List Edit) → AreRemovals text (es ++ fs) edits → AreRemovals text all (old ++ edits)) → AreRemovals text fs more
    → AreRemovals text all (new ++ more)
removals_added text all es fs old new more added before following =
    subst (λ l. AreRemovals text all l) (sym (append_assoc old added.edits more) ∙ ap (λ l. l ++ more) (sym added.are))
    (before (added.edits ++ more) (removals_append text es fs added.edits more added.removals following))
