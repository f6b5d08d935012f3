use Rattle.std.proofs.lemmas.Grind.{common_steps}
use Rattle.std.proofs.Common.{◌≡◌, ◌≤◌, ◌-◌, ◌+◌, ◌++◌, ℕ, List, take, drop, sym, ap, ◌∙◌, arith}
use Rattle.std.proofs.Math.Seq.{take-add}
use Rattle.std.proofs.lemmas.List.{take_min}
use Rattle.bib_source.specs.Positions.{position_after}
use Rattle.bib_source.proofs.positions.Positions.position.Goals as goal

-- the elements up to `start` and from there to `end` are the elements up to `end`
joined : (xs : List ℕ) (start end : ℕ) → start ≤ end → take start xs ++ take (end - start) (drop start xs) ≡ take end xs
joined xs start end before =
    let whole : start + (end - start) ≡ end = omega (arith, before) in
    sym (take-add start (end - start) xs) ∙ ap (λ n. take n xs) whole

pub invariant_of-self : goal.invariant_of-self
invariant_of-self c =
    let end = c.min-end.result in
    let known = c.known_position-start in (
      omega (arith, c.min-end.ensures),
      c.advance_all-position.ensures (take known.result.0 c.args.self.now) known.ensures.position
          ∙ rw (← c.self.view_is) (ap position_after (joined c.self.inside.bytes.now known.result.0 end known.ensures.before)),
    )

pub returns-clause-found : goal.returns-clause-found
returns-clause-found c =
    let end = c.min-end.result in
    let known = c.known_position-start in
    c.advance_all-position.ensures (take known.result.0 c.args.self.now) known.ensures.position
    ∙ rw (← c.self.view_is)
    (ap position_after
    (joined c.self.inside.bytes.now known.result.0 end known.ensures.before
    ∙ ap (λ n. take n c.self.inside.bytes.now) c.min-end.ensures
    ∙ take_min c.args.at c.self.inside.bytes.now))

pub advance_all-position-requires-clause-line : goal.advance_all-position-requires-clause-line
advance_all-position-requires-clause-line c = grind (arith, common_steps)

pub advance_all-position-requires-clause-column : goal.advance_all-position-requires-clause-column
advance_all-position-requires-clause-column c = grind (arith, common_steps)
