use Rattle.std.proofs.lemmas.Grind.{common_steps}
use Rattle.std.proofs.Common.{rules, length, ap, ◌∙◌, arith}
use Rattle.std.specs.Prelude.{◌==◌}
use Rattle.bib_text.proofs.PlaceFacts.{end_map}
use Rattle.bib_syntax.proofs.ErrorFacts.{comment_at_end}
use Rattle.bib_syntax.proofs.StretchFacts.{stretch_made}
use Rattle.bib_syntax.proofs.raw.stretches.tail.Goals as goal

pub returns-then-not-eat_if : goal.returns-then-not-eat_if
returns-then-not-eat_if c =
    let same = c.eat_until.ensures.same ∙ c.braces.invariant in
    let longest = c.eat_until.ensures.longest (λ d. d == 125) (λ d answer post. search rules) in
    let stopped = end_map (λ d post. search rules) c.eat_until.ensures.stopped in
    let end = comment_at_end stopped (λ d is. is) c.if-not-eat_if.ensures.1 in (
      stretch_made 125 _ _ _ _ _ c.utf8.text c.braces.invariant same c.cursor-start.ensures.place
          c.cursor-end.ensures.place longest stopped c.cursor-end.ensures.boundary,
      c.cursor-end.ensures.place ∙ end ∙ ap length same,
    )

pub braces-smaller : goal.braces-smaller
braces-smaller c = grind (arith, common_steps)
