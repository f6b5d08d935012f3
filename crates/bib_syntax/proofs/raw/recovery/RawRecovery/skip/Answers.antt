use Rattle.std.proofs.Common.{◌≡◌, ◌∙◌, sym, subst}
use Rattle.std.specs.Str.{IsCharBoundary}
use Rattle.bib_text.specs.Places.{CharAt, place}
use Rattle.bib_text.proofs.PlaceFacts.{same_place, char_taken}
use Rattle.bib_syntax.specs.Recovery.{GoesOnAt, Keeps}
use Rattle.bib_syntax.proofs.RecoveryFacts.{go_on_text}
use Rattle.bib_syntax.proofs.raw.recovery.RawRecovery.skip.Goals as goal
use Rattle.bib_syntax.proofs.raw.recovery.RawRecovery.skip.Goals.{After-go_on, After-cursor-end}

-- the at sign was taken
sign : (c : After-go_on) → CharAt c.args.s.now 64 c.eat.new.self
sign c = char_taken c.eat.result c.requires.sign.1 c.eat.ensures

-- the places where the block begins and where recovery continues
start : (c : After-cursor-end) → place c.args.text.now c.cursor-start.result ≡ c.args.s.now
start c = same_place c.requires.text c.cursor-start.ensures.place

end : (c : After-cursor-end) → place c.args.text.now c.cursor-end.result ≡ c.go_on.new.s
end c =
    same_place (c.requires.text ∙ sym (go_on_text (sign (goal.at-After-cursor-end c).After-go_on) c.go_on.ensures))
    c.cursor-end.ensures.place

pub add_parts-requires-clause-block : goal.add_parts-requires-clause-block
add_parts-requires-clause-block c =
    let here = (goal.at.add_parts-requires-clause-block c).After-cursor-end in (
      c.eat.new.self,
      subst (λ u. CharAt u 64 c.eat.new.self) (sym (start here)) (sign (goal.at.add_parts-requires-clause-block c).After-go_on),
      subst (λ w. GoesOnAt c.eat.new.self w) (sym (end here)) c.go_on.ensures,
    )

pub add_parts-requires-clause-boundary : goal.add_parts-requires-clause-boundary
add_parts-requires-clause-boundary c =
    let text = go_on_text (sign (goal.at.add_parts-requires-clause-boundary c).After-go_on) c.go_on.ensures in
    subst (λ t. IsCharBoundary t c.cursor-end.result) (text ∙ sym c.requires.text) c.cursor-end.ensures.boundary

pub returns-clause-kept : goal.returns-clause-kept
returns-clause-kept c =
    let here = (goal.at.returns-clause-kept c).After-cursor-end in
    let kept = c.in_ok-add_parts.ensures in (
      kept.0,
      subst (λ u. Keeps c.args.keeps_parts u c.go_on.new.s kept.0) (start here)
          (subst (λ w. Keeps c.args.keeps_parts (place c.args.text.now c.cursor-start.result) w kept.0) (end here) kept.1),
      kept.2,
    )

pub returns-clause-passed : goal.returns-clause-passed
returns-clause-passed c = (c.eat.new.self, sign (goal.at.returns-clause-passed c).After-go_on, c.go_on.ensures)
