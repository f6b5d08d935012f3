use Rattle.std.proofs.Common.{◌≡◌, [], ◌++◌, map, take}
use Rattle.std.specs.BTreeSet.{contains_text}
use Rattle.bib_tables.specs.Requirements.{Names}
use Rattle.bib_syntax.specs.Views.{field_of}
use Rattle.bib_findings.specs.After.{each_after}
use Rattle.bib_findings.specs.UnusedDefinitions.{unused_after}
use Rattle.bib_findings.specs.UsedNames.{HasLowercaseNames, names_of_definitions}
use Rattle.bib_findings.proofs.unused_definitions.add_unused_among.Given as goal

-- the set has the used names and those of the first definitions, in lowercase, and the findings of these definitions were appended
abbrev pub invariant-definitions : goal.invariant-definitions
invariant-definitions l = (used : Names) → HasLowercaseNames (contains_text l.initial.set) used
    → HasLowercaseNames (contains_text l.set) (used ++ names_of_definitions (map field_of (take l.definition-index l.definitions)))
    × (l.found.items
    ≡ l.initial.found.items ++ each_after (unused_after used) [] (map field_of (take l.definition-index l.definitions)))
