use Rattle.std.proofs.lemmas.Result.{err_from_is_err_and}
use Rattle.bib_text.proofs.PlaceFacts.{ahead_run, ahead_then, ahead_char}
use Rattle.bib_syntax.proofs.FailingFacts.{each_back}
use Rattle.bib_syntax.proofs.FieldFacts.{ahead_gap}
use Rattle.bib_syntax.proofs.raw.failing.add_entry_starts.Goals as goal

pub returns-in_err-add_starts : goal.returns-in_err-add_starts
returns-in_err-add_starts c =
    let p = err_from_is_err_and c.from_residual-in_err-add_starts.result c.from_residual-in_err-add_starts.ensures.1 in
    let passed =
    ahead_then (ahead_run c.key.ensures.longest.run)
    (ahead_then (ahead_run c.eat_whitespace.ensures.longest.run)
    (ahead_then (ahead_char c.in_ok-expect.ensures.found) (ahead_gap c.gap.ensures))) in
    rw (p.1, p.2) (each_back _ _ passed c.in_err-add_starts.ensures)
