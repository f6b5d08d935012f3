use Rattle.std.proofs.Common.{◌≡◌, ◌-◌, drop, length}
use Rattle.edit_entry_merge.specs.Lines.{lent_lines}
use Rattle.edit_entry_merge.proofs.conflict_text.shared_end.Given as goal

abbrev pub invariant-lines : goal.invariant-lines
invariant-lines l = drop (length l.one - l.count) (lent_lines l.one) ≡ drop (length l.other - l.count) (lent_lines l.other)
