use Rattle.bib_syntax.proofs.FileFacts.{line_comment_smaller}
use Rattle.bib_syntax.proofs.LineReadFacts.{comment_in_line, in_line_smaller, continues_line_from, not_feed, not_there, nothing_read, run_in_line}
use Rattle.bib_syntax.proofs.raw.lines.push_part.Goals as goal

pub returns-then-at-2-clause-found : goal.returns-then-at-2-clause-found
returns-then-at-2-clause-found c =
    nothing_read c.args.line.now (comment_in_line c.line_comment.ensures) (line_comment_smaller c.line_comment.ensures)

pub returns-else-at-2-clause-found : goal.returns-else-at-2-clause-found
returns-else-at-2-clause-found c =
    let (x, v, char, no_feed) = c.requires in
    let passes =
    continues_line_from x (not_there c.if-at.ensures char) (not_there c.if-at-2.ensures char) (not_feed x no_feed) in
    nothing_read c.args.line.now (run_in_line c.eat_until_any.ensures.longest.run)
    (in_line_smaller char passes c.eat_until_any.ensures.longest)
