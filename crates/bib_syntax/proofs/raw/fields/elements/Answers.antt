use Rattle.std.proofs.Common.{inr}
use Rattle.std.proofs.lemmas.List.{map-append}
use Rattle.std.proofs.lemmas.Result.{err_from_is_err_and}
use Rattle.bib_text.proofs.PlaceFacts.{ahead_then, ahead_run, ahead_char, left_smaller}
use Rattle.bib_syntax.specs.Views.{piece_of}
use Rattle.bib_syntax.proofs.FieldFacts.{element_read, elements_found, ahead_element}
use Rattle.bib_syntax.specs.SyntaxErrors.{ElementsFails as fails}
use Rattle.bib_syntax.proofs.ErrorFacts.{reports_as}
use Rattle.bib_syntax.proofs.ReadingFacts.{error_back}
use Rattle.bib_syntax.proofs.raw.fields.elements.Goals as goal

pub returns-in_err-piece-clause-fails : goal.returns-in_err-piece-clause-fails
returns-in_err-piece-clause-fails c =
    let p = err_from_is_err_and c.from_residual-in_err-piece.result c.from_residual-in_err-piece.ensures.1 in
    let read = c.elements.invariant.1 in
    rw (p.1, p.2)
    (inr (
      error_back c.elements.invariant.0 c.in_err-piece.ensures.error,
      reports_as (λ kind v f. read.fails kind v (fails.first f)) c.in_err-piece.ensures.fails,
    ))

pub returns-then-not-eat_if-clause-found : goal.returns-then-not-eat_if-clause-found
returns-then-not-eat_if-clause-found c =
    rw (c.if-not-eat_if.ensures.0, c.in_ok-push.ensures.items, map-append piece_of c.elements.pieces.items _)
    (elements_found _ c.elements.invariant.1 c.in_ok-piece.ensures.found c.eat_whitespace.ensures.longest c.if-not-eat_if.ensures.1)

pub elements-smaller : goal.elements-smaller
elements-smaller c =
    left_smaller
    (ahead_then (ahead_element c.in_ok-piece.ensures.found) (ahead_run c.eat_whitespace.ensures.longest.run))
    c.if-not-eat_if.ensures (ahead_run c.eat_whitespace-in-elements.ensures.longest.run)

pub elements-preserved : goal.elements-preserved
elements-preserved c = (
  ahead_then c.elements.invariant.0
      (ahead_then (ahead_element c.in_ok-piece.ensures.found)
      (ahead_then (ahead_run c.eat_whitespace.ensures.longest.run)
      (ahead_then (ahead_char c.if-not-eat_if.ensures)
      (ahead_run c.eat_whitespace-in-elements.ensures.longest.run)))),
  rw (c.in_ok-push.ensures.items, map-append piece_of c.elements.pieces.items _)
      (element_read _ c.elements.invariant.1 c.in_ok-piece.ensures.found c.eat_whitespace.ensures.longest
      c.if-not-eat_if.ensures c.eat_whitespace-in-elements.ensures.longest),
)
