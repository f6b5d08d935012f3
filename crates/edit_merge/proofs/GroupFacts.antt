-- Which names of several units a side changed, name by name.
use Rattle.std.proofs.Common.{◌≡◌, ℕ, ◌+◌, ◌<◌, Bool, true, false, List, [], ◌∷◌, ◌++◌, cond, get_or, length, take, refl, sym, ap, ◌∙◌}
use Rattle.std.specs.Prelude.{◌&&◌, ◌||◌, bytes_eq, not}
use Rattle.std.specs.List.{list_any}
use Rattle.std.proofs.lemmas.List.{take_more}
use Rattle.std.proofs.lemmas.List.Folds.{list_any-append}
use Rattle.edit_versions.specs.Versions.{VersionReading, own_part}
use Rattle.edit_merge.specs.Picked.{is_changed_name, is_same_named}

last_or : (x y : Bool) → (x || (y || false)) ≡ (y || x)
last_or true true = refl
last_or true false = refl
last_or false true = refl
last_or false false = refl

-- whether a list up to an element has one that passes a test
any_next : (test : List ℕ → Bool) (names : List (List ℕ)) (i : ℕ) (name : List ℕ) → i < length names → name ≡ get_or names i name
    → list_any test (take (i + 1) names) ≡ (test name || list_any test (take i names))
any_next test names i name within is =
    ap (list_any test) (take_more names i name within ∙ ap (λ n. take i names ++ n ∷ []) (sym is))
    ∙ list_any-append test (take i names) (name ∷ []) ∙ last_or (list_any test (take i names)) (test name)

with_changed : (named same before old : Bool) → same ≡ false → cond named true (before || old) ≡ (((named && not same) || before) || old)
with_changed true same before old is = ap (λ s. ((not s) || before) || old) (sym is)
with_changed false same before old is = refl

with_same : (named same before old : Bool) → same ≡ true → (before || old) ≡ (((named && not same) || before) || old)
with_same true same before old is = ap (λ s. ((not s) || before) || old) (sym is)
with_same false same before old is = refl

-- the changed names up to one whose units differ
pub changed_next : (v w : VersionReading) (names : List (List ℕ)) (i : ℕ) (name own : List ℕ) (has now old : Bool) → i < length names
    → name ≡ get_or names i name → is_same_named v w name ≡ false
    → has ≡ (list_any (is_changed_name v w own) (take i names) || old)
    → now ≡ cond (bytes_eq (own_part name) own) true has
    → now ≡ (list_any (is_changed_name v w own) (take (i + 1) names) || old)
changed_next v w names i name own has now old within is differ so_far pushed =
    pushed ∙ ap (cond (bytes_eq (own_part name) own) true) so_far
    ∙ with_changed (bytes_eq (own_part name) own) (is_same_named v w name) (list_any (is_changed_name v w own) (take i names)) old differ
    ∙ ap (λ b. b || old) (sym (any_next (is_changed_name v w own) names i name within is))

-- the changed names up to one whose units are the same
pub same_next : (v w : VersionReading) (names : List (List ℕ)) (i : ℕ) (name own : List ℕ) (has old : Bool) → i < length names
    → name ≡ get_or names i name → is_same_named v w name ≡ true
    → has ≡ (list_any (is_changed_name v w own) (take i names) || old)
    → has ≡ (list_any (is_changed_name v w own) (take (i + 1) names) || old)
same_next v w names i name own has old within is same so_far =
    so_far
    ∙ with_same (bytes_eq (own_part name) own) (is_same_named v w name) (list_any (is_changed_name v w own) (take i names)) old same
    ∙ ap (λ b. b || old) (sym (any_next (is_changed_name v w own) names i name within is))
