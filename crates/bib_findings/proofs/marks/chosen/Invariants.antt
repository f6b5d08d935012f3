use Rattle.std.proofs.Common.{◌≡◌, ℕ, List, take}
use Rattle.bib_findings.specs.Marks.{AreMetMarks, chosen}
use Rattle.bib_findings.proofs.marks.chosen.Given as goal

-- `found` contains the selected ones of the first indices
abbrev pub invariant-origins : goal.invariant-origins
invariant-origins l =
    (listed : List ℕ) → AreMetMarks l.met listed
    → l.found.items ≡ chosen listed (take l.index l.all) (take l.index l.origins)
