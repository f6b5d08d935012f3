use Rattle.std.proofs.Common.{rules}
use Rattle.std.proofs.lemmas.Result.{err_from_is_err_and}
use Rattle.bib_dates.proofs.AnswerFacts.{year_refused, parts_refused, all_read}
use Rattle.bib_dates.proofs.date.Date.parse_three_fields.Goals as goal

pub returns-in_err-year-clause-reads : goal.returns-in_err-year-clause-reads
returns-in_err-year-clause-reads c =
    let p = err_from_is_err_and c.from_residual.result c.from_residual.ensures.1 in
    rw (p.1, p.2) (year_refused _ _ _ _ c.in_err-year.ensures.reads)

pub returns-in_err-month-clause-reads : goal.returns-in_err-month-clause-reads
returns-in_err-month-clause-reads c =
    let p = err_from_is_err_and c.from_residual-in_err-month.result c.from_residual-in_err-month.ensures.1 in
    rw (p.1, p.2) (parts_refused _ _ _ c.in_ok-year.year _ c.in_ok-year.ensures.reads c.in_err-month.ensures.reads)

pub returns-clause-reads : goal.returns-clause-reads
returns-clause-reads c = let h = all_read _ _ _ _ _ _ c.in_ok-year.ensures.reads c.in_ok-month.ensures.reads in search (rules, h)
