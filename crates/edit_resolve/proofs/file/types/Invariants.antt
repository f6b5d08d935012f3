use Rattle.std.proofs.Common.{◌≡◌, map, take}
use Rattle.bib_syntax.specs.Views.{entry_reading_of}
use Rattle.edit_resolve.specs.Parents.{type_of}
use Rattle.edit_resolve.proofs.file.types.Given as goal

abbrev pub invariant-entries : goal.invariant-entries
invariant-entries l = l.types.items ≡ map type_of (map entry_reading_of (take l.entry-index l.entries))
