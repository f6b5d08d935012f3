use Rattle.std.proofs.Common.{take}
use Rattle.std.specs.BTreeSet.{contains_text}
use Rattle.bib_findings.specs.UsedNames.{HasLowercaseNames, borrowed_texts}
use Rattle.bib_findings.proofs.unused_definitions.name_set.Given as goal

-- the set has the first names in lowercase
abbrev pub invariant-names : goal.invariant-names
invariant-names l = HasLowercaseNames (contains_text l.set) (borrowed_texts (take l.name-index l.names))
