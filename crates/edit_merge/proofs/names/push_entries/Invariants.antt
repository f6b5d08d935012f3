use Rattle.std.proofs.Common.{◌≡◌, ◌++◌, map, take}
use Rattle.std.specs.List.{flat_map}
use Rattle.bib_syntax.specs.Views.{entry_reading_of}
use Rattle.std.specs.String.{string_bytes}
use Rattle.edit_merge.specs.UnitNames.{names_of_entry}
use Rattle.edit_merge.proofs.names.push_entries.Given as goal

-- the names that were there, and those so far
abbrev pub invariant-entries : goal.invariant-entries
invariant-entries l =
    map string_bytes l.names.items
    ≡ map string_bytes l.initial.names.items ++ flat_map names_of_entry (map entry_reading_of (take l.entry-index l.entries))
