use Rattle.std.proofs.Common.{◌≡◌, map, take}
use Rattle.bib_syntax.specs.Views.{part_of}
use Rattle.bibkit_core.specs.Compared.{unused_finding}
use Rattle.bibkit_core.proofs.cited.unused_entries.Given as goal

abbrev pub invariant-keys : goal.invariant-keys
invariant-keys l = l.found.items ≡ map unused_finding (map part_of (take l.key-index l.keys))
