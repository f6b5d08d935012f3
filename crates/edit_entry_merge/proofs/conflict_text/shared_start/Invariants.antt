use Rattle.std.proofs.Common.{◌≡◌, take}
use Rattle.edit_entry_merge.specs.Lines.{lent_lines}
use Rattle.edit_entry_merge.proofs.conflict_text.shared_start.Given as goal

abbrev pub invariant-lines : goal.invariant-lines
invariant-lines l = take l.index (lent_lines l.one) ≡ take l.index (lent_lines l.other)
