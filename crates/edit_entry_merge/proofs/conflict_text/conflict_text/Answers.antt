use Rattle.std.proofs.Common.{◌∙◌, ap}
use Rattle.std.specs.String.{string_bytes}
use Rattle.edit_entry_merge.specs.ConflictTexts.{marker_lines}
use Rattle.edit_entry_merge.specs.Lines.{lent_lines}
use Rattle.edit_entry_merge.proofs.PartFacts.{text_alike}
use Rattle.edit_entry_merge.proofs.conflict_text.conflict_text.Goals as goal

pub returns-clause-text : goal.returns-clause-text
returns-clause-text c =
    text_alike string_bytes c.marked_text.result (marker_lines c.args.markers)
    (ap lent_lines c.deref.ensures.value ∙ c.in_ok-our_lines.ensures) (ap lent_lines c.deref-2.ensures.value ∙ c.in_ok-their_lines.ensures)
    c.marked_text.ensures
