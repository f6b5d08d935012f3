use Rattle.std.proofs.Common.{◌≡◌, ◌++◌, take}
use Rattle.bib_tables.specs.Requirements.{texts}
use Rattle.bib_syntax.specs.Views.{entry_reading_of}
use Rattle.bib_findings.specs.MalformedDates.{dates_among}
use Rattle.bib_findings.proofs.malformed_dates.add_dates_among.Given as goal

-- a finding was appended for each of the first fields that is neither blank nor a date
abbrev pub invariant-names : goal.invariant-names
invariant-names l =
    l.found.items
    ≡ l.initial.found.items ++ dates_among (entry_reading_of l.said) l.entry (texts (take l.name-index l.names))
