use Rattle.std.proofs.Common.{◌≡◌, ◌++◌, map}
use Rattle.bibkit_core.specs.Tables.{name_and_count}
use Rattle.bibkit_core.proofs.TableFacts.{entry_pair}
use Rattle.bibkit_core.proofs.tables.Counts.rows.Given as goal

abbrev pub invariant-counts : goal.invariant-counts
invariant-counts l = map name_and_count l.rows.items ++ map entry_pair l.name-iterator ≡ map entry_pair l.self.counts.entries
