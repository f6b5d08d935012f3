use Rattle.std.proofs.Common.{length}
use Rattle.std.specs.Prelude.{chars}
use Rattle.bib_findings.proofs.SpecialFacts.{IsSpecialAfter}
use Rattle.bib_findings.proofs.special_characters.first_special.Given as goal

-- the first special character is that of the remaining characters
abbrev pub invariant-characters : goal.invariant-characters
invariant-characters l = IsSpecialAfter (chars l.text) (length l.yielded) l.depth l.zone
