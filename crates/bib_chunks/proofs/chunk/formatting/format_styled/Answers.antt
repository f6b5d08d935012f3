use Rattle.std.proofs.lemmas.Grind.{common_steps}
use Rattle.std.proofs.Common.{◌∙◌, sym, arith}
use Rattle.bib_chunks.proofs.StyledFacts.{shown_part, hidden_part}
use Rattle.bib_chunks.proofs.chunk.formatting.format_styled.Goals as goal
use Rattle.bib_chunks.proofs.chunk.formatting.format_styled.Goals.{then-is_shown+in_ok-space, else-is_shown}

pub chunks-preserved : goal.chunks-preserved
chunks-preserved c =
    elim c.if-is_shown.branch [
      | then-is_shown+in_ok-space w ↦
          rw (w.out-is, w.space-is) (shown_part c.chunks.space _ c.args.chunks.now c.chunks.chunk-index
          c.chunk-item.result _ _ _ c.chunks-test.true c.chunk-item.is
          c.is_shown.ensures.text (sym c.is_shown.ensures.value ∙ w.if-is_shown.true) w.in_ok-space.ensures.written
          w.in_ok-space.ensures.following c.chunks.invariant)
      | else-is_shown w ↦
          rw (w.out-is, w.space-is) (hidden_part c.chunks.space c.args.chunks.now c.chunks.chunk-index
          c.chunk-item.result _ _ c.chunks-test.true c.chunk-item.is
          (sym c.is_shown.ensures.value ∙ w.if-is_shown.false) c.chunks.invariant)
    ]

pub returns : goal.returns
returns c = grind (arith, common_steps)
