use Rattle.std.proofs.Common.{◌≡◌, ◌++◌, take}
use Rattle.bib_syntax.specs.Views.{entry_reading_of}
use Rattle.bib_findings.specs.Reported.{malformed_findings}
use Rattle.bib_findings.proofs.entries.add_malformed.Given as goal

-- a finding was appended for each of the first malformed fields whose errors are reported
abbrev pub invariant-errors : goal.invariant-errors
invariant-errors l =
    l.found.items ≡ l.initial.found.items ++ malformed_findings (entry_reading_of l.said) l.entry (take l.name-index l.errors)
