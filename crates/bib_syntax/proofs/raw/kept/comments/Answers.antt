use Rattle.bib_text.proofs.PlaceFacts.{ahead_here, ahead_run, ahead_then, left_smaller, stops_without}
use Rattle.bib_syntax.proofs.KeptFacts.{comments_all, comments_begun, comments_more}
use Rattle.bib_syntax.proofs.raw.kept.comments.Goals as goal

pub comments-init : goal.comments-init
comments-init c = comments_begun c.eat_whitespace.ensures.longest

pub comments-smaller : goal.comments-smaller
comments-smaller c =
    left_smaller (ahead_here _) c.line_comment.ensures.sign
    (ahead_then (ahead_run c.line_comment.ensures.line.run) (ahead_run c.eat_whitespace-in-comments.ensures.longest.run))

pub comments-preserved : goal.comments-preserved
comments-preserved c =
    comments_more c.comments.invariant c.line_comment.ensures c.eat_whitespace-in-comments.ensures.longest

pub returns : goal.returns
returns c = comments_all c.comments.invariant (stops_without 37 c.comments-test.ensures)
