use Rattle.std.specs.Char.{is_ascii_digit}
use Rattle.bib_text.specs.Places.{Longest}
use Rattle.bib_text.proofs.PlaceFacts.{ahead_then, ahead_char, ahead_run}
use Rattle.bib_syntax.proofs.ErrorFacts.{reports_at}
use Rattle.bib_syntax.proofs.WordFacts.{number_whole, number_broken}
use Rattle.bib_syntax.specs.SyntaxErrors.{NumberFails as fails}
use Rattle.bib_syntax.proofs.ReadingFacts.{error_back}
use Rattle.bib_syntax.proofs.raw.words.digits.Goals as goal
use Rattle.bib_syntax.proofs.raw.words.digits.Goals.{After-eat_while}

run : (c : After-eat_while) → Longest is_ascii_digit c.args.s.now c.eat_while.new.self
run c = c.eat_while.ensures.longest is_ascii_digit (λ x r post. post)

pub returns-then-not-eat_if-clause-found : goal.returns-then-not-eat_if-clause-found
returns-then-not-eat_if-clause-found c =
    let at = (goal.at.returns-then-not-eat_if-clause-found c).After-eat_while in
    let first = c.requires in
    rw c.if-not-eat_if.ensures.0 (number_whole first.2 first.3 (run at) c.if-not-eat_if.ensures.1)

pub returns-then-at-clause-fails : goal.returns-then-at-clause-fails
returns-then-at-clause-fails c =
    let at = (goal.at.returns-then-at-clause-fails c).After-eat_while in
    reports_at _ c.error.ensures.here
    (fails.second_point (run at) c.if-not-eat_if.ensures
    (c.eat_while-2.ensures.longest is_ascii_digit (λ x r post. post)) c.if-at.ensures.1)

pub returns-then-at-clause-error : goal.returns-then-at-clause-error
returns-then-at-clause-error c =
    let at = (goal.at.returns-then-at-clause-error c).After-eat_while in
    let more : Longest is_ascii_digit c.eat_if.new.self c.eat_while-2.new.self =
    c.eat_while-2.ensures.longest is_ascii_digit (λ x r post. post) in
    error_back
    (ahead_then (ahead_run (run at).run) (ahead_then (ahead_char c.if-not-eat_if.ensures) (ahead_run more.run)))
    c.error.ensures.syntax

pub returns-clause-found : goal.returns-clause-found
returns-clause-found c =
    let at = (goal.at.returns-clause-found c).After-eat_while in
    let more : Longest is_ascii_digit c.eat_if.new.self c.eat_while-2.new.self =
    c.eat_while-2.ensures.longest is_ascii_digit (λ x r post. post) in
    let first = c.requires in
    number_broken first.2 first.3 (run at) c.if-not-eat_if.ensures more c.if-at.ensures
