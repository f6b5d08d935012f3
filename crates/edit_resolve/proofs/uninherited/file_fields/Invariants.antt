use Rattle.std.proofs.Common.{◌≡◌, ◌++◌, map, drop}
use Rattle.std.specs.List.{flat_map}
use Rattle.bib_syntax.specs.Views.{entry_reading_of}
use Rattle.edit_resolve.specs.Resolved.{all_fields}
use Rattle.edit_resolve.specs.Uninherited.{has_read_name, uninherited, uninherited_in}
use Rattle.edit_resolve.specs.Views.{uninherited_list}
use Rattle.edit_resolve.specs.Working.{readings}
use Rattle.edit_resolve.proofs.uninherited.file_fields.Given as goal

-- the fields so far and those of the entries still to visit are those of all entries
abbrev pub invariant-entries : goal.invariant-entries
invariant-entries l =
    uninherited_list l.found.items
    ++ flat_map (λ e. uninherited_in (readings l.file) (all_fields (readings l.file)) (has_read_name (readings l.file) e) e)
    (map entry_reading_of (drop l.index l.file.entries.now))
    ≡ uninherited (readings l.file)
