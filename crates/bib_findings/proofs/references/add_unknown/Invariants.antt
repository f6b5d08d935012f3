use Rattle.std.proofs.Common.{◌≡◌, ◌++◌, map, take}
use Rattle.std.specs.List.{filter}
use Rattle.bib_syntax.specs.Views.{entry_reading_of}
use Rattle.bib_findings.specs.References.{is_unknown, reference_finding}
use Rattle.bib_findings.proofs.references.add_unknown.Given as goal

-- a finding was appended for each of the first keys that isn't empty and that no kept entry has
abbrev pub invariant-keys : goal.invariant-keys
invariant-keys l =
    l.found.items
    ≡ l.initial.found.items
    ++ map (reference_finding (entry_reading_of l.said) l.field)
    (filter (is_unknown l.names) (take l.key-index l.keys))
