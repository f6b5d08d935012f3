use Rattle.std.proofs.lemmas.Result.{err_from_is_err_and}
use Rattle.bib_syntax.specs.SyntaxErrors.{ElementFails as fails}
use Rattle.bib_syntax.proofs.ErrorFacts.{reports_at, reports_as, identifier_begins, no_beginning}
use Rattle.bib_syntax.proofs.WordFacts.{braced_element, quoted_element, number_piece, named_piece, no_digit_without}
use Rattle.bib_syntax.proofs.raw.words.element.Goals as goal

pub returns-in_err-braced_text-clause-fails : goal.returns-in_err-braced_text-clause-fails
returns-in_err-braced_text-clause-fails c =
    let p = err_from_is_err_and c.from_residual.result c.from_residual.ensures.1 in
    rw (p.1, p.2) (reports_as (λ kind v f. fails.braced f) c.in_err-braced_text.ensures.fails)

pub returns-in_err-quoted_text-clause-fails : goal.returns-in_err-quoted_text-clause-fails
returns-in_err-quoted_text-clause-fails c =
    let p = err_from_is_err_and c.from_residual-in_err-quoted_text.result c.from_residual-in_err-quoted_text.ensures.1 in
    rw (p.1, p.2) (reports_as (λ kind v f. fails.quoted c.if-at-2.ensures.1 f) c.in_err-quoted_text.ensures.fails)

pub returns-in_err-number-clause-fails : goal.returns-in_err-number-clause-fails
returns-in_err-number-clause-fails c =
    let p = err_from_is_err_and c.from_residual-in_err-number.result c.from_residual-in_err-number.ensures.1 in
    let first = c.if-begins_number.ensures in
    rw (p.1, p.2) (reports_as (λ kind v f. fails.number first.2 first.3 f) c.in_err-number.ensures.fails)

pub returns-in_err-identifier-clause-fails : goal.returns-in_err-identifier-clause-fails
returns-in_err-identifier-clause-fails c =
    let p = err_from_is_err_and c.from_residual-in_err-identifier.result c.from_residual-in_err-identifier.ensures.1 in
    rw (p.1, p.2) (reports_as (λ kind v f. absurd (identifier_begins c.if-begins_identifier.ensures f)) c.in_err-identifier.ensures.fails)

pub returns-clause-fails : goal.returns-clause-fails
returns-clause-fails c =
    reports_at _ c.error.ensures.here
    (fails.missing
    (no_beginning c.if-at.ensures c.if-at-2.ensures c.if-begins_number.ensures c.if-begins_identifier.ensures))

pub returns-then-at-clause-found : goal.returns-then-at-clause-found
returns-then-at-clause-found c = braced_element _ _ c.map.ensures.value c.map.ensures.span c.in_ok-braced_text.ensures.found

pub returns-then-at-2-clause-found : goal.returns-then-at-2-clause-found
returns-then-at-2-clause-found c =
    quoted_element _ _ c.map-then-at-2.ensures.value c.map-then-at-2.ensures.span c.in_ok-quoted_text.ensures.found

pub returns-then-begins_number-clause-found : goal.returns-then-begins_number-clause-found
returns-then-begins_number-clause-found c =
    number_piece _ _ c.map-then-begins_number.ensures.value c.map-then-begins_number.ensures.span
    c.in_ok-number.ensures.found c.in_ok-number.ensures.reading

pub returns-then-begins_identifier-clause-found : goal.returns-then-begins_identifier-clause-found
returns-then-begins_identifier-clause-found c =
    named_piece _ _ c.map-then-begins_identifier.ensures.value c.map-then-begins_identifier.ensures.span
    (no_digit_without c.if-begins_number.ensures) c.in_ok-identifier.ensures.found
