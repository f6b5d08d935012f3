use Rattle.std.proofs.Common.{◌≡◌, ℕ, ◌≤◌, Bool, true, false, is_some, List, Option, sym, ◌∙◌, subst}
use Rattle.std.specs.Prelude.{◌||◌, MatchBool}
use Rattle.bib_text.specs.Braces.{IsParts}
use Rattle.bib_queries.specs.Balance.{IsBalanced}
use Rattle.edit_strings.specs.Collected.{CanBeCollected, is_longer_than_name, times_of}
use Rattle.edit_strings.specs.Collecting.{known_in}
use Rattle.edit_strings.proofs.collected.is_collected.Goals as goal

decided : (is : Bool) (known : List ℕ → Option (List ℕ)) (least count : ℕ) (text : List ℕ) → least ≤ count
    → (is_some (known text) || is_longer_than_name text) ≡ true → IsBalanced text
    → MatchBool is (IsParts text) (IsParts text → ⊥)
    → (texts : List (List ℕ)) → count ≡ times_of text texts
    → MatchBool is (CanBeCollected known least texts text) (CanBeCollected known least texts text → ⊥)
decided true known least count text often shortened balanced braced texts same =
    record { often = subst (λ n. least ≤ n) same often; shortened = shortened; braced = braced; balanced = balanced }
decided false known least count text often shortened balanced unbraced texts same = λ meets. unbraced meets.braced

balanced_if : (b : Bool) (text : List ℕ) → MatchBool b (IsBalanced text) (IsBalanced text → ⊥) → b ≡ true → IsBalanced text
balanced_if true text balanced is = balanced
balanced_if false text balanced is = absurd (cc)

pub returns : goal.returns
returns c =
    decided c.has_balanced_braces.result (known_in c.args.known.now) c.args.least _ c.args.text.now
    (subst (λ n. c.args.least ≤ n) c.count_of.ensures c.if-count_of-least.false)
    (sym c.in_ok-is_shortened.ensures ∙ c.if-not-branch.false)
    (balanced_if c.is_balanced.result c.args.text.now c.is_balanced.ensures c.if-not-is_balanced.false)
    c.has_balanced_braces.ensures.parts
