use Rattle.bib_syntax.specs.Grammar.{Gap as gap}
use Rattle.bib_syntax.proofs.FieldFacts.{gap_without}
use Rattle.bib_syntax.proofs.raw.fields.gap.Goals as goal

pub returns-then-at : goal.returns-then-at
returns-then-at c = gap.line_comment c.eat_whitespace.ensures.longest c.line_comment.ensures c.eat_whitespace-then-at.ensures.longest

pub returns-else-at : goal.returns-else-at
returns-else-at c = gap_without c.eat_whitespace.ensures.longest c.if-at.ensures
