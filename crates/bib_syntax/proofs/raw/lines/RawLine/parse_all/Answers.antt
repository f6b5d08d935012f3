use Rattle.std.proofs.Common.{◌∙◌, map, subst, sym}
use Rattle.std.proofs.lemmas.Result.{err_from_is_err_and}
use Rattle.bib_text.specs.Places.{place}
use Rattle.bib_text.proofs.PlaceFacts.{ahead_same}
use Rattle.bib_syntax.specs.Grammar.{File, longest}
use Rattle.bib_syntax.specs.LineViews.{line_of}
use Rattle.bib_syntax.specs.Lines.{AreLinesFrom}
use Rattle.bib_syntax.proofs.AnyFacts.{file_any}
use Rattle.bib_syntax.proofs.FieldFacts.{refuses_from}
use Rattle.bib_syntax.proofs.FileFailureFacts.{file_unread}
use Rattle.bib_syntax.proofs.LineReadFacts.{lines_are_file}
use Rattle.bib_syntax.proofs.ModeFacts.{file_longest}
use Rattle.bib_syntax.proofs.raw.lines.RawLine.parse_all.Goals as goal

pub returns-clause-read : goal.returns-clause-read
returns-clause-read c =
    lines_are_file
    (subst (λ p. AreLinesFrom p (map line_of c.in_ok-lines_from.field-0.items)) (c.new-2.ensures ∙ c.new.ensures)
    c.in_ok-lines_from.ensures.found)

pub returns-clause-accepted : goal.returns-clause-accepted
returns-clause-accepted c = (
  _,
  file_any
      (lines_are_file
      (subst (λ p. AreLinesFrom p (map line_of c.in_ok-lines_from.field-0.items)) (c.new-2.ensures ∙ c.new.ensures)
      c.in_ok-lines_from.ensures.found)),
)

pub returns-in_err-lines_from-clause-refused : goal.returns-in_err-lines_from-clause-refused
returns-in_err-lines_from-clause-refused c =
    let p = err_from_is_err_and c.from_residual.result c.from_residual.ensures.1 in
    let at = c.new-2.ensures ∙ c.new.ensures in
    rw (p.1, p.2) (refuses_from {u = place c.args.src.now 0} _ _ (ahead_same at)
    (λ r read. let l = file_longest read.1 in file_unread r.fails (subst (λ q. File longest q l.0) (sym at) l.1))
    c.in_err-lines_from.ensures.fails)
