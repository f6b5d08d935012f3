use Rattle.std.proofs.Common.{◌++◌, ap, ◌∙◌}
use Rattle.std.proofs.lemmas.Result.{err_from_is_err_and}
use Rattle.bib_entry.specs.WrittenEntries.{entry_in}
use Rattle.biblatex.proofs.HandingFacts.{none_taken, one_refused, text_of}
use Rattle.biblatex.proofs.write.hand_next.Goals as goal

pub returns-in_err-write_next-clause-handed : goal.returns-in_err-write_next-clause-handed
returns-in_err-write_next-clause-handed g c =
    let p = err_from_is_err_and c.from_residual.result c.from_residual.ensures.1 in
    rw (p.1, p.2) (none_taken g.K.Sink.hands_over _ _)

pub returns-clause-handed : goal.returns-clause-handed
returns-clause-handed g c =
    let text = text_of (entry_in c.args.dialect) c.args.is_first c.args.entry.now in
    one_refused g.K.Sink.hands_over _ _ _ _
    (c.deref.ensures ∙ c.in_ok-write_next.ensures ∙ ap (λ bs. bs ++ text) c.new-text.ensures.bytes)
    c.if-write_str.ensures.handed
