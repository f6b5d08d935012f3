use Rattle.std.proofs.Common.{inr}
use Rattle.std.proofs.lemmas.Result.{err_from_is_err_and}
use Rattle.bib_syntax.proofs.FieldFacts.{refuses_from}
use Rattle.bib_syntax.proofs.FileFacts.{ahead_head, body_fails}
use Rattle.bib_syntax.specs.SyntaxErrors.{BlockFails as fails}
use Rattle.bib_syntax.proofs.ErrorFacts.{reports_as}
use Rattle.bib_syntax.proofs.ReadingFacts.{error_back}
use Rattle.bib_syntax.proofs.raw.file.block.Goals as goal

pub returns-in_err-kind-clause-fails : goal.returns-in_err-kind-clause-fails
returns-in_err-kind-clause-fails c =
    let p = err_from_is_err_and c.from_residual.result c.from_residual.ensures.1 in
    rw (p.1, p.2) (inr (c.in_err-kind.ensures.error, reports_as (λ kind v f. fails.head f) c.in_err-kind.ensures.fails))

pub returns-in_err-comment-in-Comment-clause-fails : goal.returns-in_err-comment-in-Comment-clause-fails
returns-in_err-comment-in-Comment-clause-fails c =
    let p = err_from_is_err_and c.from_residual-in_err-comment-in-Comment.result c.from_residual-in_err-comment-in-Comment.ensures.1 in
    let head = c.in_ok-kind.ensures.found in
    rw (p.1, p.2)
    (inr (
      error_back (ahead_head head) c.in_err-comment-in-Comment.ensures.error,
      reports_as (λ kind v f. body_fails _ head c.in-Comment.ensures f)
          c.in_err-comment-in-Comment.ensures.fails,
    ))

pub returns-in_err-preamble-in-Preamble-clause-fails : goal.returns-in_err-preamble-in-Preamble-clause-fails
returns-in_err-preamble-in-Preamble-clause-fails c =
    let p = err_from_is_err_and c.from_residual-in_err-preamble-in-Preamble.result c.from_residual-in_err-preamble-in-Preamble.ensures.1 in
    let head = c.in_ok-kind.ensures.found in
    rw (p.1, p.2)
    (inr (
      error_back (ahead_head head) c.in_err-preamble-in-Preamble.ensures.error,
      reports_as (λ kind v f. body_fails _ head c.in-Preamble.ensures f)
          c.in_err-preamble-in-Preamble.ensures.fails,
    ))

pub returns-in_err-strings-in-Strings-clause-fails : goal.returns-in_err-strings-in-Strings-clause-fails
returns-in_err-strings-in-Strings-clause-fails c =
    let p = err_from_is_err_and c.from_residual-in_err-strings-in-Strings.result c.from_residual-in_err-strings-in-Strings.ensures.1 in
    let head = c.in_ok-kind.ensures.found in
    rw (p.1, p.2)
    (refuses_from _ _ (ahead_head head) (reports_as (λ kind v f. body_fails _ head c.in-Strings.ensures f))
    c.in_err-strings-in-Strings.ensures.fails)

pub returns-in_err-entry-in-Entry-clause-fails : goal.returns-in_err-entry-in-Entry-clause-fails
returns-in_err-entry-in-Entry-clause-fails c =
    let p = err_from_is_err_and c.from_residual-in_err-entry-in-Entry.result c.from_residual-in_err-entry-in-Entry.ensures.1 in
    let head = c.in_ok-kind.ensures.found in
    rw (p.1, p.2)
    (refuses_from _ _ (ahead_head head) (reports_as (λ kind v f. body_fails _ head c.in-Entry.ensures f))
    c.in_err-entry-in-Entry.ensures.fails)
