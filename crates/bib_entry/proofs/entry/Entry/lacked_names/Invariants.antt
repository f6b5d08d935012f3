use Rattle.std.proofs.Common.{◌≡◌, ◌++◌, drop}
use Rattle.std.specs.List.{filter}
use Rattle.bib_tables.specs.Requirements.{texts}
use Rattle.bib_entry.specs.Reports.{lacks}
use Rattle.bib_entry.proofs.entry.Entry.lacked_names.Given as goal

-- the names found so far, followed by the lacking ones among the remaining names, are all lacking ones
abbrev pub invariant-loop-name : goal.invariant-loop-name
invariant-loop-name l =
    texts l.found.items ++ filter (lacks l.self) (texts (drop l.name-index l.names))
    ≡ filter (lacks l.self) (texts l.names)
