use Rattle.std.proofs.Common.{◌≡◌, ◌++◌, drop}
use Rattle.std.specs.List.{filter}
use Rattle.bib_tables.specs.Requirements.{texts}
use Rattle.bib_entry.specs.Reports.{has_chunks}
use Rattle.bib_entry.proofs.entry.Entry.filled_names.Given as goal

-- the names found so far, followed by those with chunks among the remaining names, are all with chunks
abbrev pub invariant-loop-name : goal.invariant-loop-name
invariant-loop-name l =
    texts l.found.items ++ filter (has_chunks l.self) (texts (drop l.name-index l.names))
    ≡ filter (has_chunks l.self) (texts l.names)
