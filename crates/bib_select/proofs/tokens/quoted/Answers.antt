use Rattle.std.proofs.Common.{rules, refl}
use Rattle.std.specs.Prelude.{◌==◌, not}
use Rattle.bib_text.specs.Places.{Longest}
use Rattle.bib_text.proofs.PlaceFacts.{char_taken}
use Rattle.bib_select.specs.Tokens.IsUnclosed.{unclosed}
use Rattle.bib_select.proofs.TokenFacts.{no_closing, quoted_text}
use Rattle.bib_select.proofs.tokens.quoted.Goals as goal

pub returns-then-eat_if : goal.returns-then-eat_if
returns-then-eat_if c =
    quoted_text c.eat_until-text.result.now (char_taken c.eat-opening.result c.requires.here.1 c.eat-opening.ensures)
    c.requires.quote (c.eat_until-text.ensures.longest _ (λ x r post. search rules)) c.eat_until-text.ensures.eaten
    c.if-eat_if.ensures

pub returns : goal.returns
returns c =
    let inside : Longest (λ x. not (x == c.args.quote)) c.eat-opening.new.self c.eat_until-text.new.self =
    c.eat_until-text.ensures.longest _ (λ x r post. search rules) in (
      refl,
      unclosed (char_taken c.eat-opening.result c.requires.here.1 c.eat-opening.ensures) c.requires.quote inside
          (no_closing c.args.quote c.eat_until-text.ensures.stopped inside.stops c.if-eat_if.ensures.1),
    )
