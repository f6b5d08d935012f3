use Rattle.std.proofs.Common.{◌≡◌, ◌++◌, map, not, take}
use Rattle.std.specs.List.{filter}
use Rattle.std.specs.Prelude.{codes}
use Rattle.bib_tables.specs.Requirements.{texts}
use Rattle.bib_syntax.specs.Views.{entry_reading_of}
use Rattle.bib_findings.specs.Entries.{field_finding}
use Rattle.bib_findings.specs.Reported.{is_in_data_model}
use Rattle.bib_findings.specs.declared.codes.Code.TheVariants.{SuperfluousField}
use Rattle.bib_findings.proofs.entries.add_forbidden.Given as goal

-- a finding was appended for each of the first fields that BibLaTeX's data model lacks
abbrev pub invariant-names : goal.invariant-names
invariant-names l =
    l.found.items
    ≡ l.initial.found.items
    ++ map (field_finding (entry_reading_of l.said) SuperfluousField (codes "superfluous"))
    (filter (λ name. not (is_in_data_model l.entry_type name)) (texts (take l.name-index l.names)))
