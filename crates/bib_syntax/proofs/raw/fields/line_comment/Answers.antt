use Rattle.bib_syntax.proofs.ReadingFacts.{taken_if}
use Rattle.bib_syntax.proofs.raw.fields.line_comment.Goals as goal

pub returns : goal.returns
returns c = record { inside = _; sign = taken_if 37 _ c.eat_if.ensures c.requires; line = c.eat_line.ensures }
