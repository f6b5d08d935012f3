use Rattle.std.proofs.Common.{◌≡◌, ◌∙◌, sym, ap}
use Rattle.std.specs.Str.{IsCharBoundary}
use Rattle.std.proofs.lemmas.Str.{IsUtf8-drop}
use Rattle.bib_contents.proofs.characters.Characters.jump.Goals as goal

pub invariant_of-self : goal.invariant_of-self
invariant_of-self c =
    let same : c.self.inside.text.now ≡ c.jump.new.self.text = c.self.invariant.1 ∙ sym (ap (λ p. p.text) c.jump.ensures) in
    let boundary : IsCharBoundary c.self.inside.scanner.text c.args.target = rw (← c.self.view_is) at c.requires in (
      c.self.invariant.0,
      same,
      rw c.jump.ensures
          (IsUtf8-drop c.self.inside.scanner.text c.args.target (rw c.self.invariant.1 at c.self.invariant.0) boundary),
    )

pub returns-clause-utf8 : goal.returns-clause-utf8
returns-clause-utf8 c =
    let boundary : IsCharBoundary c.self.inside.scanner.text c.args.target = rw (← c.self.view_is) at c.requires in
    rw (← c.self.view_is) (IsUtf8-drop c.self.inside.scanner.text c.args.target (rw c.self.invariant.1 at c.self.invariant.0) boundary)
