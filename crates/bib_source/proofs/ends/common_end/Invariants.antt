use Rattle.std.proofs.Common.{◌≡◌, ◌-◌, drop, length}
use Rattle.bib_source.specs.Comparison.{line_texts}
use Rattle.bib_source.proofs.ends.common_end.Given as goal

abbrev pub invariant-lines : goal.invariant-lines
invariant-lines l = line_texts (drop (length l.fn.old - l.index) l.fn.old) ≡ line_texts (drop (length l.fn.new - l.index) l.fn.new)
