use Rattle.std.proofs.Common.{map, take}
use Rattle.bib_syntax.specs.Views.{entry_reading_of}
use Rattle.bib_findings.specs.Adding.{Adds}
use Rattle.bib_findings.specs.Entries.{AreOfEach}
use Rattle.bib_findings.specs.References.{AreReferences}
use Rattle.bib_findings.proofs.references.add_references.Given as goal

-- the findings of the first entries were appended
abbrev pub invariant-entries : goal.invariant-entries
invariant-entries l =
    Adds (AreOfEach (AreReferences l.names) (map entry_reading_of l.said) (take l.index l.origins) (take l.index l.own))
    l.initial.found.items l.found.items
