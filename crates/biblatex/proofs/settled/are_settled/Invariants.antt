use Rattle.std.proofs.Common.{drop}
use Rattle.std.specs.Prelude.{◌↔◌}
use Rattle.std.specs.List.{AllByRecursion}
use Rattle.biblatex.specs.Settled.{IsSettledEntry}
use Rattle.biblatex.proofs.settled.are_settled.Given as goal

-- all entries are settled exactly if the remaining ones are
abbrev pub invariant-entries : goal.invariant-entries
invariant-entries l = AllByRecursion IsSettledEntry l.entries ↔ AllByRecursion IsSettledEntry (drop l.entry-index l.entries)
