use Rattle.std.proofs.Common.{◌≡◌, map, take}
use Rattle.bib_syntax.specs.Views.{entry_reading_of}
use Rattle.edit_resolve.specs.Parents.{parents}
use Rattle.edit_resolve.specs.Working.{parent_lists, readings}
use Rattle.edit_resolve.proofs.parents.all_parents.Given as goal

abbrev pub invariant-entries : goal.invariant-entries
invariant-entries l =
    parent_lists l.found.items ≡ map (parents (readings l.file)) (map entry_reading_of (take l.entry-index l.file.entries.now))
