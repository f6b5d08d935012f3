-- Prefixes of texts, and tests of one more element.
use Rattle.std.proofs.Common.{◌≡◌, ◌+◌, ℕ, Bool, cond, List, [], ◌∷◌, ◌++◌, drop, length, sym, ap, ◌∙◌, MatchOption, Option, Some, None}
use Rattle.std.specs.Borrow.{Bor}
use Rattle.std.specs.List.{list_all, list_any}
use Rattle.std.specs.Option.{option_map}
use Rattle.std.specs.Prelude.{◌&&◌, ◌||◌}
use Rattle.std.specs.Str.Pattern.{FindsTextPrefix}
use Rattle.std.proofs.lemmas.List.Folds.{list_all-append, list_any-append}
use Rattle.bib_from_csl.specs.Tags.{without_prefix}
use Rattle.bib_text.proofs.ListFacts.{begins, begins_not}
use Rattle.std.proofs.Math.Bool.{or-false, and-true}

-- `strip_prefix` of std returns the text after the prefix, or `None` if the text doesn't begin with it
pub prefix_taken : (prefix text : List ℕ) (r : Option (Bor (List ℕ)))
    → MatchOption r (FindsTextPrefix prefix text None)
    (λ x. (n : ℕ) × FindsTextPrefix prefix text (Some n) × (x.now ≡ drop n text) × (length x.now + n ≡ length text))
    → option_map (λ x. x.now) r ≡ without_prefix prefix text
prefix_taken prefix text None h = sym (ap (λ b. cond b (Some (drop (length prefix) text)) None) (begins_not prefix text h))
prefix_taken prefix text (Some x) h =
    ap Some (h.2 ∙ ap (λ k. drop k text) h.1.0)
    ∙ sym (ap (λ b. cond b (Some (drop (length prefix) text)) None) (begins prefix text (drop h.0 text) h.1.1))

-- with one more element, some element passes exactly if one did or the new one does; the next lemma is the same for all elements
pub any_more : {X : Type 0} (p : X → Bool) (xs : List X) (x : X) (found more : Bool) → found ≡ list_any p xs
    → more ≡ (found || p x) → more ≡ list_any p (xs ++ x ∷ [])
any_more p xs x found more was is =
    is ∙ ap (λ b. b || p x) was ∙ ap (λ b. list_any p xs || b) (sym (or-false (p x)))
    ∙ sym (list_any-append p xs (x ∷ []))

pub all_more : {X : Type 0} (p : X → Bool) (xs : List X) (x : X) (found more : Bool) → found ≡ list_all p xs
    → more ≡ (found && p x) → more ≡ list_all p (xs ++ x ∷ [])
all_more p xs x found more was is =
    is ∙ ap (λ b. b && p x) was ∙ ap (λ b. list_all p xs && b) (sym (and-true (p x)))
    ∙ sym (list_all-append p xs (x ∷ []))
