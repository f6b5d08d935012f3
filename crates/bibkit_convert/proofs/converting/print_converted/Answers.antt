use Rattle.std.proofs.lemmas.Result.{err_from_is_err_and}
use Rattle.bibkit_convert.proofs.ConvertedFacts.{converted_text, unread_fails}
use Rattle.bibkit_convert.proofs.converting.print_converted.Goals as goal

pub returns-in_err-bibliography-clause-failed : goal.returns-in_err-bibliography-clause-failed
returns-in_err-bibliography-clause-failed g c =
    let p = err_from_is_err_and c.from_residual.result c.from_residual.ensures.1 in
    rw (p.1, p.2)
    (unread_fails g.K.Sink.refusals c.args.text.now c.args.output.now c.in_err-bibliography.field-0.0
    c.in_err-bibliography.ensures.refused)

pub returns-clause-converted : goal.returns-clause-converted
returns-clause-converted g c =
    converted_text g.K.Sink.taken c.args.target c.args.is_first c.args.text.now c.args.output.now c.print_entries.new.output
    c.in_ok-bibliography.bibliography c.print_entries.result
    c.in_ok-bibliography.ensures.loaded c.print_entries.ensures.printed c.print_entries.ensures.next
