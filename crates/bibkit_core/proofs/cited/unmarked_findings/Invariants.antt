use Rattle.std.proofs.Common.{◌≡◌, length, take}
use Rattle.bibkit_core.specs.Marks.{unmarked_findings}
use Rattle.bibkit_core.proofs.cited.unmarked_findings.Given as goal

abbrev pub invariant-citations : goal.invariant-citations
invariant-citations l = l.found.items ≡ unmarked_findings (take (length l.yielded) l.citations) (take (length l.yielded) l.known)
