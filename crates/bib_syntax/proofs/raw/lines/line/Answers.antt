use Rattle.std.proofs.lemmas.Result.{err_from_is_err_and}
use Rattle.bib_syntax.specs.Lines.{InLine}
use Rattle.bib_syntax.proofs.ErrorFacts.{reports_as}
use Rattle.bib_syntax.proofs.FieldFacts.{refuses_from}
use Rattle.bib_syntax.proofs.LineReadFacts.{ahead_in_line, file_in_line, line_goes_on}
use Rattle.bib_syntax.proofs.raw.lines.line.Goals as goal

pub parts-init : goal.parts-init
parts-init c = (
  rw
      (c.new.ensures.items, c.new-2.ensures.bytes, c.new-3.ensures.items, c.new-4.ensures.items) InLine.none,
  c.cursor-start.ensures.place,
)

pub parts-preserved : goal.parts-preserved
parts-preserved c = line_goes_on c.parts.invariant.0 c.parts.invariant.1 c.in_ok-push_part.ensures.found

pub returns-in_err-push_part-clause-fails : goal.returns-in_err-push_part-clause-fails
returns-in_err-push_part-clause-fails c =
    let p = err_from_is_err_and c.from_residual.result c.from_residual.ensures.1 in
    let read = file_in_line c.parts.invariant.0 in
    rw (p.1, p.2)
    (refuses_from _ _ (ahead_in_line c.parts.invariant.0) (reports_as (λ kind v f. read.fails kind v f))
    c.in_err-push_part.ensures.fails)
