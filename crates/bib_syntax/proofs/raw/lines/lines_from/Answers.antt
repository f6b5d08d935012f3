use Rattle.std.proofs.Common.{map, sym, subst}
use Rattle.std.proofs.lemmas.Result.{err_from_is_err_and}
use Rattle.bib_text.proofs.PlaceFacts.{left_smaller}
use Rattle.bib_syntax.specs.LineViews.{line_of}
use Rattle.bib_syntax.specs.Lines.{AreLinesFrom}
use Rattle.bib_syntax.proofs.ErrorFacts.{reports_as}
use Rattle.bib_syntax.proofs.FieldFacts.{refuses_from}
use Rattle.bib_syntax.proofs.LineReadFacts.{LinesBefore, ahead_in_line, ahead_lines, at_last_end, lines_last, lines_push, lines_pushed, lines_read}
use Rattle.bib_text.proofs.PlaceFacts.{ahead_here}
use Rattle.bib_syntax.proofs.raw.lines.lines_from.Goals as goal

pub lines-init : goal.lines-init
lines-init c = subst (λ ls. LinesBefore c.args.s.now (map line_of ls) c.args.s.now) (sym c.new-lines.ensures.items) LinesBefore.none

pub returns-in_err-line-clause-fails : goal.returns-in_err-line-clause-fails
returns-in_err-line-clause-fails c =
    let p = err_from_is_err_and c.from_residual.result c.from_residual.ensures.1 in
    let read = lines_read c.lines.invariant in
    rw (p.1, p.2)
    (refuses_from _ _ (ahead_lines c.lines.invariant) (reports_as (λ kind v f. read.fails kind v f)) c.in_err-line.ensures.fails)

pub returns-then-not-eat_if-clause-found : goal.returns-then-not-eat_if-clause-found
returns-then-not-eat_if-clause-found c =
    subst (λ ls. AreLinesFrom c.args.s.now ls) (sym (lines_pushed _ _ c.in_ok-push.ensures.items))
    (lines_last c.lines.invariant c.in_ok-line.ensures.found (at_last_end c.in_ok-line.ensures.ends c.if-not-eat_if.ensures.1))

pub lines-smaller : goal.lines-smaller
lines-smaller c = left_smaller (ahead_in_line c.in_ok-line.ensures.found.inside) c.if-not-eat_if.ensures (ahead_here _)

pub lines-preserved : goal.lines-preserved
lines-preserved c =
    subst (λ ls. LinesBefore c.args.s.now ls c.eat_if.new.self) (sym (lines_pushed _ _ c.in_ok-push.ensures.items))
    (lines_push c.lines.invariant c.in_ok-line.ensures.found c.if-not-eat_if.ensures)
