use Rattle.std.proofs.Common.{take}
use Rattle.bibkit_edits.specs.Steps.{AreFirstMade, latest}
use Rattle.bibkit_edits.proofs.editing.edit_text.Given as goal

abbrev pub invariant-edits : goal.invariant-edits
invariant-edits l = AreFirstMade (take l.index l.edits) l.text (latest l.new l.text)
