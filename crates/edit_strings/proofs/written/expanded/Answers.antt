use Rattle.std.proofs.Common.{◌++◌, ◌<◌, length, arith, sym, ap, ◌∙◌}
use Rattle.edit_strings.specs.Tables.{all_visits, indexed_back, rows_of, staying}
use Rattle.edit_strings.specs.Views.{lent_pieces}
use Rattle.edit_strings.proofs.WrittenFacts.{top_gone}
use Rattle.edit_strings.proofs.written.expanded.Goals as goal

pub stack-smaller-in-Continue-1 : goal.stack-smaller-in-Continue-1
stack-smaller-in-Continue-1 c =
    let rows = rows_of c.args.rows.now in
    let gone =
    top_gone c.args.rows.now c.requires.ordered c.stack.stack.items c.pop.new.self.items c.extend_from_slice.new.self.items
    c.in-Some.next c.index-rows-index.result c.in-Some-definition.index c.in-Some.ensures.items c.in-Some-definition.is
    c.index-rows-index.is
    (c.in_ok-extend_from_slice-in-Some-definition.ensures.items ∙ ap (λ l. c.pop.new.self.items ++ l) c.deref.ensures.value)
    c.stack.invariant.below in
    let less : length (all_visits rows (indexed_back c.extend_from_slice.new.self.items))
    < length (all_visits rows (indexed_back c.stack.stack.items)) = omega (arith, ap length gone.0) in
    less

pub stack-preserved-in-Continue-1 : goal.stack-preserved-in-Continue-1
stack-preserved-in-Continue-1 c =
    let rows = rows_of c.args.rows.now in
    let gone =
    top_gone c.args.rows.now c.requires.ordered c.stack.stack.items c.pop.new.self.items c.extend_from_slice.new.self.items
    c.in-Some.next c.index-rows-index.result c.in-Some-definition.index c.in-Some.ensures.items c.in-Some-definition.is
    c.index-rows-index.is
    (c.in_ok-extend_from_slice-in-Some-definition.ensures.items ∙ ap (λ l. c.pop.new.self.items ++ l) c.deref.ensures.value)
    c.stack.invariant.below in
    record {
      written = ap (λ v. lent_pieces c.stack.found.items ++ staying v) (sym gone.0) ∙ c.stack.invariant.written;
      below = gone.1;
    }
