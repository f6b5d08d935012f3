use Rattle.std.proofs.Common.{sym, ap, ◌∙◌}
use Rattle.std.specs.Prelude.{option_copied}
use Rattle.std.specs.Option.{option_map}
use Rattle.std.proofs.lemmas.Result.{err_from_is_err_and}
use Rattle.bib_chunks.specs.Values.{text}
use Rattle.bib_dates.specs.ThreeFields.{month_field, day_field, day_of}
use Rattle.bib_dates.proofs.AnswerFacts.{month_refused, day_refused, month_and_day_read}
use Rattle.bib_dates.proofs.chunks.month_and_day_of.Goals as goal

pub returns-in_err-number-clause-reads : goal.returns-in_err-number-clause-reads
returns-in_err-number-clause-reads c =
    let p = err_from_is_err_and c.from_residual-in_err-number.result c.from_residual-in_err-number.ensures.1 in
    let is = c.month_field.ensures ∙ ap month_field (c.as_str.ensures.value ∙ c.in_ok-text.ensures) in
    rw (p.1, p.2) (month_refused _ _ c.month_field.result _ is c.in_err-number.ensures.reads)

pub returns-in_err-day-clause-reads : goal.returns-in_err-day-clause-reads
returns-in_err-day-clause-reads c =
    let p = err_from_is_err_and c.from_residual-in_err-day.result c.from_residual-in_err-day.ensures.1 in
    let is = c.month_field.ensures ∙ ap month_field (c.as_str.ensures.value ∙ c.in_ok-text.ensures) in
    let same =
    c.day_after.ensures
    ∙ ap (λ d. day_of (option_map text (option_copied d)) c.in_ok-number.following.now) (sym c.in_default.is) in
    rw (p.1, p.2) (day_refused _ _ c.month_field.result _ _ _ is c.in_ok-number.ensures.reads same c.in_err-day.ensures.reads)

pub returns-in_default-clause-reads : goal.returns-in_default-clause-reads
returns-in_default-clause-reads c =
    let is = c.month_field.ensures ∙ ap month_field (c.as_str.ensures.value ∙ c.in_ok-text.ensures) in
    let same =
    c.day_after.ensures
    ∙ ap (λ d. day_of (option_map text (option_copied d)) c.in_ok-number.following.now) (sym c.in_default.is) in
    month_and_day_read _ _ c.month_field.result _ _ _ is c.in_ok-number.ensures.reads same c.in_ok-day.ensures.reads

pub returns-in_err-day-2-clause-reads : goal.returns-in_err-day-2-clause-reads
returns-in_err-day-2-clause-reads c =
    let p = err_from_is_err_and c.from_residual-in_err-day-2.result c.from_residual-in_err-day-2.ensures.1 in
    let is = c.month_field.ensures ∙ ap month_field (c.as_str.ensures.value ∙ c.in_ok-text.ensures) in
    let same = ap (λ d. day_of (option_map text (option_copied d)) c.in_ok-number.following.now) (sym c.in-Some.is) in
    rw (p.1, p.2)
    (day_refused _ _ c.month_field.result _ (day_field (text c.in-Some.day.now)) _ is c.in_ok-number.ensures.reads
    same c.in_err-day-2.ensures.reads)

pub returns-clause-reads : goal.returns-clause-reads
returns-clause-reads c =
    let is = c.month_field.ensures ∙ ap month_field (c.as_str.ensures.value ∙ c.in_ok-text.ensures) in
    let same = ap (λ d. day_of (option_map text (option_copied d)) c.in_ok-number.following.now) (sym c.in-Some.is) in
    month_and_day_read _ _ c.month_field.result _ (day_field (text c.in-Some.day.now)) _ is c.in_ok-number.ensures.reads
    same c.in_ok-day-2.ensures.reads
