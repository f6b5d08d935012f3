use Rattle.std.proofs.Common.{◌≡◌, drop}
use Rattle.std.specs.List.{list_any}
use Rattle.bib_tables.specs.Requirements.{texts}
use Rattle.bib_syntax.specs.Views.{entry_reading_of}
use Rattle.bib_findings.specs.Identities.{differs_in}
use Rattle.bib_findings.proofs.identities.differ_in.Given as goal

-- the entries differ in one of the fields from this one on exactly if they differ in one of all fields
abbrev pub invariant-names : goal.invariant-names
invariant-names l =
    list_any (differs_in (entry_reading_of l.said) (entry_reading_of l.other)) (texts l.names)
    ≡ list_any (differs_in (entry_reading_of l.said) (entry_reading_of l.other)) (texts (drop l.name-index l.names))
