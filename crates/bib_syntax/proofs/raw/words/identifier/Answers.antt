use Rattle.bib_syntax.specs.Characters.{is_id_continue}
use Rattle.bib_syntax.proofs.WordFacts.{identifier_found}
use Rattle.bib_syntax.specs.SyntaxErrors.{IdentifierFails as fails}
use Rattle.bib_syntax.proofs.ErrorFacts.{reports_at}
use Rattle.bib_syntax.proofs.ReadingFacts.{part_eaten}
use Rattle.bib_syntax.proofs.raw.words.identifier.Goals as goal

pub returns-then-not-begins_identifier-clause-fails : goal.returns-then-not-begins_identifier-clause-fails
returns-then-not-begins_identifier-clause-fails c = reports_at _ c.error.ensures.here (fails.missing c.if-not-begins_identifier.ensures)

pub returns-clause-found : goal.returns-clause-found
returns-clause-found c =
    identifier_found c.if-not-begins_identifier.ensures (c.eat_while-text.ensures.longest is_id_continue (λ x r post. post))
    (rw c.new.ensures
    (part_eaten c.args.s.now c.eat_while-text.new.self _ _ _ c.cursor-start.ensures.place c.cursor.ensures.place
    c.eat_while-text.ensures.eaten))
