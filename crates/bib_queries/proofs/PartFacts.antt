-- Texts that contain another text.
use Rattle.std.proofs.Common.{◌≡◌, ◌≤◌, ◌||◌, ℕ, zero, suc, Bool, true, false, List, [], ◌∷◌, ◌++◌, drop, length, sym, ap, ap₂, ◌∙◌, arith, MatchBool, None, eqb}
use Rattle.std.specs.List.{starts_with}
use Rattle.std.specs.Str.Pattern.{FindsText, HasMatch, LacksTextAt}
use Rattle.bib_queries.specs.Answers.{has_part}
use Rattle.std.proofs.Math.Bool.{or-true}
use Rattle.bib_text.proofs.ListFacts.{begins, begins_not}

-- a text that has the part at an offset contains it
part_at : (part text : List ℕ) (at : ℕ) (rest : List ℕ) → drop at text ≡ part ++ rest → has_part part text ≡ true
part_at part [] zero rest is = begins part [] rest is
part_at part [] (suc at) rest is = begins part [] rest is
part_at part (b ∷ text) zero rest is = ap (λ d. d || has_part part text) (begins part (b ∷ text) rest is)
part_at part (b ∷ text) (suc at) rest is =
    ap (λ d. starts_with eqb (b ∷ text) part || d) (part_at part text at rest is)
    ∙ or-true (starts_with eqb (b ∷ text) part)

-- a text that has the part at no offset doesn't contain it
part_nowhere : (part text : List ℕ) → ((at : ℕ) → at ≤ length text → LacksTextAt part text at) → has_part part text ≡ false
part_nowhere part [] lacks = begins_not part [] (lacks 0 (omega arith))
part_nowhere part (b ∷ text) lacks =
    ap₂ (λ c d. c || d) (begins_not part (b ∷ text) (lacks 0 (omega arith)))
    (part_nowhere part text (λ at within. lacks (suc at) (omega (arith, within))))

-- `contains` of std returns whether the text contains the part
pub part_found : (part text : List ℕ) (found : Bool)
    → MatchBool found (HasMatch (FindsText part) text) (FindsText part text None) → found ≡ has_part part text
part_found part text true at = sym (part_at part text at.0 (drop at.1 text) at.2.1.split)
part_found part text false lacks = sym (part_nowhere part text lacks)
