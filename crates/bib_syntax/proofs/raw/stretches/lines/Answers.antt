use Rattle.std.proofs.lemmas.Grind.{common_steps}
use Rattle.std.proofs.Common.{rules, ap, ◌∙◌, arith, subst, sym}
use Rattle.std.specs.Prelude.{◌==◌}
use Rattle.std.proofs.lemmas.List.Elements.{All-push}
use Rattle.bib_text.proofs.PlaceFacts.{end_map}
use Rattle.bib_syntax.specs.Stretches.{IsStretch, AreLines}
use Rattle.bib_syntax.proofs.StretchFacts.{stretch_made}
use Rattle.bib_syntax.proofs.raw.stretches.lines.Goals as goal
use Rattle.bib_syntax.proofs.raw.stretches.lines.Goals.{In_ok-push}

-- the lines so far and the one that ends here are lines of the text
more : (c : In_ok-push) → AreLines c.args.text.now c.push.new.self.items
more c =
    let line : IsStretch 10 c.args.text.now (record { start = c.cursor-start.result; end = c.cursor-end.result }) =
    stretch_made 10 _ _ _ _ _ c.utf8.text c.lines.invariant.0 (c.eat_until.ensures.same ∙ c.lines.invariant.0)
    c.cursor-start.ensures.place c.cursor-end.ensures.place
    (c.eat_until.ensures.longest (λ d. d == 10) (λ d answer post. search rules))
    (end_map (λ d post. search rules) c.eat_until.ensures.stopped) c.cursor-end.ensures.boundary in
    subst (AreLines c.args.text.now) (sym c.in_ok-push.ensures.items) (All-push (IsStretch 10 c.args.text.now) _ _ c.lines.invariant.1 line)

pub lines-init : goal.lines-init
lines-init c = (
  ap (λ p. p.text) c.jump.ensures ∙ ap (λ p. p.text) c.new-s.ensures,
  subst (AreLines c.args.text.now) (sym c.new-found.ensures.items) (λ k d below. absurd (omega (arith, below))),
)

pub lines-preserved : goal.lines-preserved
lines-preserved c = (
  c.if-not-eat_if.ensures.same ∙ (c.eat_until.ensures.same ∙ c.lines.invariant.0),
  more (goal.at.lines-preserved c).In_ok-push,
)

pub returns-then-not-eat_if : goal.returns-then-not-eat_if
returns-then-not-eat_if c = more (goal.at.returns-then-not-eat_if c).In_ok-push

pub lines-smaller : goal.lines-smaller
lines-smaller c = grind (arith, common_steps)
