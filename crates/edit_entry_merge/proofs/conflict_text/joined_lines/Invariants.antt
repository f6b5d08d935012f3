use Rattle.std.proofs.Common.{◌≡◌, take}
use Rattle.std.specs.String.{string_bytes}
use Rattle.edit_entry_merge.specs.ConflictTexts.{lines_as_text}
use Rattle.edit_entry_merge.specs.Lines.{lent_lines}
use Rattle.edit_entry_merge.proofs.conflict_text.joined_lines.Given as goal

abbrev pub invariant-lines : goal.invariant-lines
invariant-lines l = string_bytes l.text ≡ lines_as_text (lent_lines (take l.index l.lines))
