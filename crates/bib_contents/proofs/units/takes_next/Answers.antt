use Rattle.std.proofs.Common.{◌≡◌, refl, sym, ap, ◌∙◌, ◌∷◌, List, ℕ, []}
use Rattle.std.specs.Str.{chars}
use Rattle.bib_contents.specs.Progress.{left, Passes}
use Rattle.bib_text.specs.Places.{Place, place}
use Rattle.bib_contents.proofs.CommandUnitFacts.{takes_one, takes_none, takes_nothing}
use Rattle.bib_contents.proofs.units.takes_next.Goals as goal

-- the characters of a name are its first one and those left after it
spelt : (name : List ℕ) (u v : Place) (c : ℕ) → u ≡ place name 0 → Passes u (c ∷ []) v → chars name ≡ c ∷ left v
spelt name u v c start passed = ap left (sym start) ∙ passed.left

pub returns-in_default : goal.returns-in_default
returns-in_default c space is = takes_nothing (chars c.args.name.now) space (ap left (sym c.new-letters.ensures) ∙ c.in_default.ensures.0)

pub returns-then-not-done : goal.returns-then-not-done
returns-then-not-done c space is =
    takes_none (chars c.args.name.now) (left c.eat.new.self) space c.in-Some.first
    (spelt _ _ _ _ c.new-letters.ensures c.in-Some.ensures) c.if-not-done.ensures

pub returns-then-is_mark : goal.returns-then-is_mark
returns-then-is_mark c space is =
    let one =
    takes_one (chars c.args.name.now) (left c.eat.new.self) space c.in-Some.first
    (spelt _ _ _ _ c.new-letters.ensures c.in-Some.ensures) c.if-not-done.ensures in
    rw (one, c.if-is_mark.true, sym c.if-is_mark.ensures) refl

pub returns-then-is_accent_letter : goal.returns-then-is_accent_letter
returns-then-is_accent_letter c space is =
    let one =
    takes_one (chars c.args.name.now) (left c.eat.new.self) space c.in-Some.first
    (spelt _ _ _ _ c.new-letters.ensures c.in-Some.ensures) c.if-not-done.ensures in
    rw (one, sym c.if-is_mark.ensures, sym c.if-is_accent_letter.ensures) is

pub returns-else-is_accent_letter : goal.returns-else-is_accent_letter
returns-else-is_accent_letter c space is =
    let one =
    takes_one (chars c.args.name.now) (left c.eat.new.self) space c.in-Some.first
    (spelt _ _ _ _ c.new-letters.ensures c.in-Some.ensures) c.if-not-done.ensures in
    rw (one, sym c.if-is_mark.ensures, sym c.if-is_accent_letter.ensures) c.if-is_accent_letter.false
