-- Facts about tests, their combinations, and the statements that they decide.
use Rattle.std.proofs.Common.{◌≡◌, Bool, true, false, cond, refl, sym, ◌∙◌}
use Rattle.std.specs.Prelude.{◌&&◌, ◌||◌, ◌↔◌, MatchBool, not}
use Rattle.std.proofs.lemmas.Bool.{and_parts, not-false, not-true, or_parts}

-- if neither of two tests passes, the first doesn't
pub or_false_left : (x y : Bool) → (x || y) ≡ false → x ≡ false
or_false_left x y is = (or_parts x y is).0

-- if neither of two tests passes, the second doesn't
pub or_false_right : (x y : Bool) → (x || y) ≡ false → y ≡ false
or_false_right x y is = (or_parts x y is).1

-- if both tests pass, the second does
pub and_true_right : (x y : Bool) → (x && y) ≡ true → y ≡ true
and_true_right x y is = (and_parts x y is).1

-- if both tests pass, the first does
pub and_true_left : (x y : Bool) → (x && y) ≡ true → x ≡ true
and_true_left x y is = (and_parts x y is).0

-- if the negation of a disjunction passes, the first test fails
pub not_or_left : (x y : Bool) → not (x || y) ≡ true → x ≡ false
not_or_left x y is = (or_parts x y (not-true (x || y) is)).0

-- the order of two alternatives doesn't matter
pub or_turned : (x y : Bool) → (x || y) ≡ (y || x)
or_turned true true = refl
or_turned true false = refl
or_turned false true = refl
or_turned false false = refl

-- `x` or `y` is `y`, or else `x` as the only further alternative
pub or_last : (x y : Bool) → (x || y) ≡ (y || (x || false))
or_last true true = refl
or_last true false = refl
or_last false true = refl
or_last false false = refl

-- `cond x true y` is the disjunction of `x` and `y`
pub or_cond : (x y : Bool) → cond x true y ≡ (x || y)
or_cond true y = refl
or_cond false y = refl

-- `cond x true y` is `y`, or else `x` as the only further alternative
pub cond_last : (x y : Bool) → cond x true y ≡ (y || (x || false))
cond_last x y = or_cond x y ∙ or_last x y

-- three alternatives can be grouped from the left or from the right
pub or_grouped : (x y z : Bool) → ((x || y) || z) ≡ (x || (y || z))
or_grouped true y z = refl
or_grouped false y z = refl

-- a test whose negation fails passes
pub true_from_not : (x : Bool) → false ≡ not x → x ≡ true
true_from_not x is = not-false x (sym is)

-- a test of a statement is a test of an equivalent one
pub iff_cases : {A B : Type 0} (b : Bool) → A ↔ B → MatchBool b B (B → ⊥) → MatchBool b A (A → ⊥)
iff_cases true same holds = same.1 holds
iff_cases false same fails = λ a. fails (same.0 a)
