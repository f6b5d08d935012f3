use Rattle.std.proofs.Common.{◌∙◌}
use Rattle.bib_text.specs.Places.{Longest}
use Rattle.bib_text.proofs.PlaceFacts.{ahead_run}
use Rattle.bib_syntax.proofs.FileFacts.{ahead_line_comment, line_comment_smaller, skip_smaller, is_skipped, is_skipped_from}
use Rattle.bib_syntax.proofs.RecoveryFacts.{skip_recovered, comment_recovered}
use Rattle.bib_syntax.proofs.raw.recovery.RawRecovery.add_blocks.Goals as goal

pub file-smaller-then-c-eq37 : goal.file-smaller-then-c-eq37
file-smaller-then-c-eq37 c = line_comment_smaller c.line_comment.ensures

pub file-preserved-then-c-eq37 : goal.file-preserved-then-c-eq37
file-preserved-then-c-eq37 c = (
  (λ start read. comment_recovered _ _ (c.file.invariant.0 start read) c.line_comment.ensures),
  (ahead_line_comment c.line_comment.ensures).text ∙ c.file.invariant.1,
  c.file.invariant.2,
)

pub file-smaller : goal.file-smaller
file-smaller c =
    let run : Longest is_skipped c.file.s c.eat_until_either.new.self = c.eat_until_either.ensures.longest in
    skip_smaller c.in-Some.ensures.1 (is_skipped_from _ c.if-c-eq64.false c.if-c-eq37.false) run

pub file-preserved : goal.file-preserved
file-preserved c =
    let run : Longest is_skipped c.file.s c.eat_until_either.new.self = c.eat_until_either.ensures.longest in (
      (λ start read. skip_recovered _ _ (c.file.invariant.0 start read) run),
      (ahead_run run.run).text ∙ c.file.invariant.1,
      c.file.invariant.2,
    )
