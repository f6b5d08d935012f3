use Rattle.std.proofs.Common.{◌≡◌, ◌++◌, take}
use Rattle.edit_entry_merge.specs.Lines.{lent_lines}
use Rattle.edit_entry_merge.proofs.conflict_text.push_lines.Given as goal

abbrev pub invariant-more : goal.invariant-more
invariant-more l = lent_lines l.lines.items ≡ lent_lines l.fn.lines.items ++ lent_lines (take l.line-index l.more)
