use Rattle.std.proofs.Common.{◌≡◌, ◌++◌, map, take}
use Rattle.std.specs.List.{flat_map}
use Rattle.bib_syntax.specs.Views.{entry_reading_of}
use Rattle.bib_findings.specs.UnusedDefinitions.{used_by_entry}
use Rattle.bib_findings.specs.UsedNames.{borrowed_texts}
use Rattle.bib_findings.proofs.unused_definitions.push_of_entries.Given as goal

-- the names in the first entries were appended
abbrev pub invariant-said : goal.invariant-said
invariant-said l =
    borrowed_texts l.names.items
    ≡ borrowed_texts l.initial.names.items
    ++ flat_map used_by_entry (map entry_reading_of (take l.one-index l.said))
