use Rattle.std.proofs.lemmas.Grind.{common_steps}
use Rattle.std.proofs.Common.{◌++◌, ◌∙◌, sym, ap, take, arith}
use Rattle.bib_chunks.specs.Styled.{styled, atoms_of}
use Rattle.bib_chunks.proofs.ListFacts.{joined_more, joined_shown, joined_hidden}
use Rattle.bib_chunks.proofs.lists.merge_neighbours.Goals as goal
use Rattle.bib_chunks.proofs.lists.merge_neighbours.Goals.{then-is_shown+in_ok-add, else-is_shown}

pub chunks-preserved : goal.chunks-preserved
chunks-preserved c =
    let so_far = styled (take c.chunks.chunk-index c.args.chunks.now) in
    let more =
    joined_more c.args.chunks.now c.chunks.chunk-index c.chunk-item.result c.chunks-test.true
    ∙ ap (λ x. so_far ++ atoms_of x.v) (sym c.chunk-item.is) in
    elim c.if-is_shown.branch [
      | then-is_shown+in_ok-add w ↦ rw more
          (w.all-is
          ∙ joined_shown so_far c.chunk-item.result.v _ _ c.is_shown.ensures.text
          (sym c.is_shown.ensures.value ∙ w.if-is_shown.true) c.chunks.invariant w.in_ok-add.ensures)
      | else-is_shown w ↦ rw more
          (w.all-is ∙ c.chunks.invariant
          ∙ joined_hidden so_far c.chunk-item.result.v (sym c.is_shown.ensures.value ∙ w.if-is_shown.false))
    ]

pub returns : goal.returns
returns c = grind (arith, common_steps)
