use Rattle.std.proofs.Common.{◌≡◌, map, take}
use Rattle.bib_syntax.specs.Views.{entry_reading_of}
use Rattle.bib_queries.specs.Known.{all_names}
use Rattle.bibkit_core.proofs.conditions.all_names.Given as goal

abbrev pub invariant-entries : goal.invariant-entries
invariant-entries l = map (λ name. name.now) l.names.items ≡ all_names (map entry_reading_of (take l.entry-index l.entries))
