use Rattle.std.proofs.Common.{◌≡◌, drop, map}
use Rattle.std.specs.List.{list_any}
use Rattle.bib_queries.specs.Sets.{is_in_set}
use Rattle.bib_syntax.specs.Views.{entry_reading_of}
use Rattle.edit_entries.specs.Selected.{would_be_empty}
use Rattle.edit_entries.proofs.selected.would_one_be_empty.Given as goal

-- an entry would be empty exactly if one of those that are left would be
abbrev pub invariant-entries : goal.invariant-entries
invariant-entries l =
    list_any (would_be_empty (is_in_set l.keys) l.name) (map entry_reading_of l.entries)
    ≡ list_any (would_be_empty (is_in_set l.keys) l.name) (map entry_reading_of (drop l.entry-index l.entries))
