use Rattle.std.proofs.Common.{◌≡◌, take}
use Rattle.bib_source.specs.Comparison.{line_texts}
use Rattle.bib_source.proofs.ends.common_start.Given as goal

abbrev pub invariant-lines : goal.invariant-lines
invariant-lines l = line_texts (take l.index l.fn.old) ≡ line_texts (take l.index l.fn.new)
