use Rattle.std.proofs.Common.{◌∙◌}
use Rattle.std.proofs.lemmas.Result.{err_from_is_err_and}
use Rattle.bib_entry.specs.WrittenEntries.{entry_in}
use Rattle.bib_text.proofs.OptionFacts.{ok_differs}
use Rattle.biblatex.proofs.HandingFacts.{next_taken, stopped_at, texts_at}
use Rattle.biblatex.proofs.WritingFacts.{next_written, not_first, appends_more}
use Rattle.biblatex.proofs.write.hand.Goals as goal

pub entries-preserved : goal.entries-preserved
entries-preserved g c =
    let flag = c.entries.invariant.2 in
    let written =
    next_written (entry_in c.args.dialect) c.args.entries.now c.entries.entry-index c.entry-item.result
    c.entries.is_first c.entries-test.true c.entry-item.is flag in (
      appends_more _ _ _ _ _ _ c.entries.invariant.0 c.in_ok-hand_next.ensures.written written,
      c.in_ok-hand_next.ensures.same ok_differs ∙ c.entries.invariant.1,
      not_first c.entries.entry-index,
      next_taken g.K.Sink.hands_over (entry_in c.args.dialect) c.args.entries.now c.entries.entry-index
          c.entry-item.result c.entries.is_first _ _ _ c.entries-test.true c.entry-item.is flag c.entries.invariant.3
          c.in_ok-hand_next.ensures.handed,
    )

pub returns-in_err-hand_next-clause-handed : goal.returns-in_err-hand_next-clause-handed
returns-in_err-hand_next-clause-handed g c =
    let p = err_from_is_err_and c.from_residual.result c.from_residual.ensures.1 in
    let all =
    texts_at (entry_in c.args.dialect) c.args.entries.now c.entries.entry-index c.entry-item.result
    c.entries.is_first c.entries-test.true c.entry-item.is c.entries.invariant.2 in
    rw (p.1, p.2) (stopped_at g.K.Sink.hands_over _ _ _ _ _ _ _ _ all c.entries.invariant.3 c.in_err-hand_next.ensures.handed)
