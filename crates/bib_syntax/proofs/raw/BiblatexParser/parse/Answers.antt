use Rattle.std.proofs.Common.{◌≡◌, ◌∙◌, ℕ, List, subst, sym}
use Rattle.std.proofs.lemmas.Result.{err_from_is_err_and}
use Rattle.bib_text.specs.Places.{Place, place}
use Rattle.bib_text.proofs.PlaceFacts.{same_place, ahead_same}
use Rattle.bib_syntax.specs.Grammar.{File, longest}
use Rattle.bib_syntax.specs.Views.{file_of}
use Rattle.bib_syntax.proofs.FileFailureFacts.{file_unread}
use Rattle.bib_syntax.proofs.ErrorFacts.{reported_from}
use Rattle.bib_syntax.proofs.FieldFacts.{refuses_from}
use Rattle.bib_syntax.proofs.AnyFacts.{file_any}
use Rattle.bib_syntax.proofs.ModeFacts.{file_longest}
use Rattle.bib_syntax.proofs.raw.BiblatexParser.parse.Goals as goal

-- a place with the offset 0 is the start of its text
start : (q p : Place) (text : List ℕ) → q ≡ p → p.text ≡ text → p.at ≡ 0 → q ≡ place text 0
start q p text same texts at = same ∙ same_place {u = p} {v = place text 0} texts at

pub returns-clause-read : goal.returns-clause-read
returns-clause-read c =
    subst (λ p. File longest p (file_of c.in_ok-blocks.field-0))
    (start _ _ _ c.new.ensures c.self.view_is c.self.invariant) c.in_ok-blocks.ensures.found

pub returns-clause-accepted : goal.returns-clause-accepted
returns-clause-accepted c = (
  _,
  file_any
      (subst (λ p. File longest p (file_of c.in_ok-blocks.field-0))
      (start _ _ _ c.new.ensures c.self.view_is c.self.invariant) c.in_ok-blocks.ensures.found),
)

pub returns-in_err-blocks-clause-refused : goal.returns-in_err-blocks-clause-refused
returns-in_err-blocks-clause-refused c =
    let p = err_from_is_err_and c.from_residual.result c.from_residual.ensures.1 in
    let at = start _ _ _ c.new.ensures c.self.view_is c.self.invariant in
    rw (p.1, p.2) (refuses_from {u = place c.args.self 0} _ _ (ahead_same at)
    (λ r read. let l = file_longest read.1 in file_unread r.fails (subst (λ q. File longest q l.0) (sym at) l.1))
    c.in_err-blocks.ensures.fails)

pub returns-in_err-blocks-clause-reported : goal.returns-in_err-blocks-clause-reported
returns-in_err-blocks-clause-reported c =
    let p = err_from_is_err_and c.from_residual.result c.from_residual.ensures.1 in
    rw (p.1, p.2) (reported_from (start _ _ _ c.new.ensures c.self.view_is c.self.invariant) c.in_err-blocks.ensures.fails)
