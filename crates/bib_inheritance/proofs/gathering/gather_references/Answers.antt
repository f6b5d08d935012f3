use Rattle.bib_inheritance.proofs.GatheredFacts.{given_more}
use Rattle.bib_inheritance.proofs.gathering.gather_references.Goals as goal

pub references-preserved : goal.references-preserved
references-preserved c =
    given_more c.args.entry_type.now c.args.references.now c.references.done c.index-references-count.result
    c.references.gathered c.gather_reference.new.gathered c.references-test.true c.index-references-count.is
    c.in_ok-gather_reference.ensures c.references.invariant
