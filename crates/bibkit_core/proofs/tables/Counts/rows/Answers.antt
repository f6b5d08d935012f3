use Rattle.std.proofs.Common.{◌≡◌, ◌++◌, [], map, sym, ap, ◌∙◌}
use Rattle.std.specs.Map.Iter.{deref_pair}
use Rattle.std.proofs.lemmas.List.{append-nil}
use Rattle.std.proofs.lemmas.Map.Iter.{rest_all}
use Rattle.bibkit_core.specs.Tables.{name_and_count}
use Rattle.bibkit_core.proofs.TableFacts.{entry_pair, rows_by_name}
use Rattle.bibkit_core.proofs.tables.Counts.rows.Goals as goal

pub returns : goal.returns
returns c = λ names was.
    let none : c.counts.name-iterator ≡ [] =
    rest_all deref_pair c.counts.name-iterator c.next.new.self c.next.result c.in-None.is c.next.ensures.steps in
    let all : map name_and_count c.counts.rows.items ≡ map entry_pair c.args.self.now.counts.entries
    =
    sym (append-nil (map name_and_count c.counts.rows.items))
    ∙ ap (λ es. map name_and_count c.counts.rows.items ++ map entry_pair es) (sym none) ∙ c.counts.invariant in
    rows_by_name names c.counts.rows.items c.args.self.now.counts.entries all c.iter-name-items.ensures.ordered was.held
