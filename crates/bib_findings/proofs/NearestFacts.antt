-- The known name for which a name may be a typing error.
use Rattle.std.proofs.Common.{◌≡◌, ℕ, Bool, true, false, not, List, ◌+◌, ◌<◌, ◌≤◌, length, get_or, Some, None, sym, ap, ◌∙◌, cond}
use Rattle.std.specs.Borrow.{Bor}
use Rattle.std.specs.Prelude.{bytes_eq, codes, drop, find, nat_eq}
use Rattle.std.specs.List.{ends_with}
use Rattle.std.specs.Str.Pattern.{FindsTextPrefix}
use Rattle.std.proofs.lemmas.List.{drop_all}
use Rattle.bib_text.proofs.ListFacts.{begins, begins_not}
use Rattle.bib_tables.specs.Requirements.{texts}
use Rattle.bib_findings.specs.Nearest.{is_extension}
use Rattle.bib_queries.proofs.EqualValueFacts.{from_index}

-- the first name from an index on that passes a test is the name at the index if it passes, or else the first one after it
from_name : (p : List ℕ → Bool) (names : List (Bor (List ℕ))) (index : ℕ) (other : Bor (List ℕ)) (passes : Bool) → index < length names
    → find p (texts (drop index names)) ≡ find p (texts names) → p (get_or names index other).now ≡ passes
    → find p (texts names) ≡ cond passes (Some (get_or names index other).now) (find p (texts (drop (index + 1) names)))
from_name p names index other passes within so_far is =
    sym so_far ∙ ap (λ l. find p (texts l)) (from_index names index other within)
    ∙ ap (λ b. cond b (Some (get_or names index other).now) (find p (texts (drop (index + 1) names)))) is

-- the first name that passes a test, if that at an index is the first one from there on
pub name_found : (p : List ℕ → Bool) (names : List (Bor (List ℕ))) (index : ℕ) (other : Bor (List ℕ)) → index < length names
    → find p (texts (drop index names)) ≡ find p (texts names) → p (get_or names index other).now ≡ true
    → find p (texts names) ≡ Some (get_or names index other).now
name_found p names index other within so_far is = from_name p names index other true within so_far is

-- the first name that passes a test is after an index if that at the index doesn't pass
pub name_passed : (p : List ℕ → Bool) (names : List (Bor (List ℕ))) (index : ℕ) (other : Bor (List ℕ)) → index < length names
    → find p (texts (drop index names)) ≡ find p (texts names) → p (get_or names index other).now ≡ false
    → find p (texts (drop (index + 1) names)) ≡ find p (texts names)
name_passed p names index other within so_far is = sym (from_name p names index other false within so_far is)

-- no name passes a test if there is none from an index on, and the first that passes is there
pub no_name : (p : List ℕ → Bool) (names : List (Bor (List ℕ))) (index : ℕ) → length names ≤ index
    → find p (texts (drop index names)) ≡ find p (texts names) → find p (texts names) ≡ None
no_name p names index past so_far = sym so_far ∙ ap (λ l. find p (texts l)) (drop_all index names past)

-- a name that begins with a known one is an extension of it, unless the rest is an `s`
pub extension_some : (name known rest : List ℕ) (n : ℕ) → FindsTextPrefix known name (Some n) → rest ≡ drop n name
    → not (bytes_eq rest (codes "s")) ≡ is_extension name known
extension_some name known rest n here is =
    ap (λ l. not (bytes_eq l (codes "s"))) (is ∙ ap (λ k. drop k name) here.0)
    ∙ sym
    (ap (λ b. cond b (not (bytes_eq (drop (length known) name) (codes "s"))) (ends_with nat_eq name known))
    (begins known name (drop n name) here.1))

-- a name that doesn't begin with a known one is an extension of it exactly if it ends with it
pub extension_none : (name known : List ℕ) → FindsTextPrefix known name None → ends_with nat_eq name known ≡ is_extension name known
extension_none name known lacks =
    sym
    (ap (λ b. cond b (not (bytes_eq (drop (length known) name) (codes "s"))) (ends_with nat_eq name known))
    (begins_not known name lacks))
