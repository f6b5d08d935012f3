use Rattle.std.proofs.lemmas.Grind.{common_steps}
use Rattle.std.proofs.Common.{ap, sym, ◌∙◌, arith}
use Rattle.std.specs.Prelude.{bytes_eq}
use Rattle.bib_collections.proofs.LookingFacts.{found, passed}
use Rattle.bib_collections.proofs.sorted.find_linear.Goals as goal

pub returns-then-eq : goal.returns-then-eq
returns-then-eq g c =
    sym
    (c.pairs.invariant
    ∙ found _ c.args.pairs.now c.pairs.pair-index _ (omega arith) c.pair-item.is
    (ap (bytes_eq c.args.name.now) (sym c.as_str.ensures) ∙ sym c.eq.ensures ∙ c.if-eq.true))

pub pairs-preserved : goal.pairs-preserved
pairs-preserved g c =
    c.pairs.invariant
    ∙ passed _ c.args.pairs.now c.pairs.pair-index _ (omega arith) c.pair-item.is
    (ap (bytes_eq c.args.name.now) (sym c.as_str.ensures) ∙ sym c.eq.ensures ∙ c.if-eq.false)

pub returns : goal.returns
returns c = grind (arith, common_steps)
