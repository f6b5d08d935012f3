use Rattle.std.proofs.Common.{sym, ap, ◌∙◌, rules}
use Rattle.std.proofs.iter.Next as it
use Rattle.std.specs.FinMap as map
use Rattle.std.specs.Iterator.{EndsFrom}
use Rattle.bib_collections.proofs.SortedFacts.{of_its_entries, one_more}
use Rattle.bib_collections.proofs.text_map.TextMapExtendTuple2Text.extend.Goals as goal

pub pairs-init : goal.pairs-init
pairs-init g c =
    let asked : (s : g.row.U-IntoIter.Denot) → g.U.IntoIterator.into_iter_gives c.args.iter s
    → g.U.IntoIter.Iterator.can_next s × EndsFrom g.U.IntoIter.Iterator.remaining s
    × it.Along g.U.IntoIter.Iterator.next_gives s (λ _. Unit {0}) =
    search rules in
    let made = asked c.into_iter-name-iterator.result c.into_iter-name-iterator.ensures.into_iter_gives in
    it.begun made.0 made.1 (sym (of_its_entries c.args.self.now))

pub pairs-preserved-in_ok-insert : goal.pairs-preserved-in_ok-insert
pairs-preserved-in_ok-insert g c =
    let so_far = c.pairs.invariant in
    it.again so_far (c.in-Some.name, c.in-Some.value) c.in-Some.is (c.next.ensures.steps, c.next.ensures.goes)
    (c.in_ok-insert.ensures.inserted ∙ ap (λ m. map.insert m c.in-Some.name c.in-Some.value) so_far.holds ∙ one_more _ so_far.seen _ _)

pub pairs-preserved : goal.pairs-preserved
pairs-preserved g c =
    let so_far = c.pairs.invariant in
    it.again so_far (c.in-Some.name, c.in-Some.value) c.in-Some.is (c.next.ensures.steps, c.next.ensures.goes)
    (c.in_ok-insert.ensures.inserted ∙ ap (λ m. map.insert m c.in-Some.name c.in-Some.value) so_far.holds ∙ one_more _ so_far.seen _ _)
