use Rattle.std.proofs.Common.{◌∙◌, ap, sym}
use Rattle.edit_entry_merge.specs.ConflictTexts.{lines_as_text}
use Rattle.edit_entry_merge.proofs.LineFacts.{lines_joined}
use Rattle.edit_entry_merge.proofs.laws.conflict_parts_are_the_texts.Goals as goal

pub returns : goal.returns
returns c ours theirs p are =
    (ap lines_as_text (sym are.our_lines) ∙ lines_joined ours, ap lines_as_text (sym are.their_lines) ∙ lines_joined theirs)
