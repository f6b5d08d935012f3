use Rattle.std.proofs.Common.{◌≡◌, map}
use Rattle.bib_syntax.specs.Views.{entry_reading_of}
use Rattle.bibkit_core.specs.Conditions.{entries_with}
use Rattle.bibkit_core.proofs.conditions.entries_with.Given as goal

abbrev pub invariant-entries : goal.invariant-entries
invariant-entries l =
    map entry_reading_of l.kept.items ≡ entries_with (map (λ key. key.now) l.keys) (map entry_reading_of l.yielded)
