-- The number of fields up to the last one that stays.
use Rattle.std.proofs.Common.{◌≡◌, ℕ, suc, ◌<◌, ◌≤◌, Bool, true, false, cond, List, [], ◌∷◌, ◌++◌, length, refl, sym, ap, ◌∙◌, arith}
use Rattle.std.specs.Prelude.{◌||◌, ◌==◌, map}
use Rattle.edit_entry_merge.specs.Mixed.{is_empty_list}
use Rattle.std.specs.List.{list_any}
use Rattle.std.proofs.lemmas.Bool.Decides.{nat_tests}
use Rattle.edit_entry_merge.specs.Picks.{FieldPick, is_staying}
use Rattle.edit_entry_merge.specs.Working.{count_to_last}

any_more : (ps : List FieldPick) (p : FieldPick) → list_any is_staying (ps ++ p ∷ []) ≡ (list_any is_staying ps || is_staying p)
any_more [] p = by_case (is_staying p)
  where
    by_case : (b : Bool) → (b || false) ≡ b
    by_case true = refl
    by_case false = refl
any_more (q ∷ ps) p = by_case (is_staying q) (any_more ps p)
  where
    by_case : (b : Bool) → list_any is_staying (ps ++ p ∷ []) ≡ (list_any is_staying ps || is_staying p)
        → (b || list_any is_staying (ps ++ p ∷ [])) ≡ ((b || list_any is_staying ps) || is_staying p)
    by_case true rest = refl
    by_case false rest = rest

-- with one more pick, the number is that of all if this one stays, and as before otherwise
pub count_more : (ps : List FieldPick) (p : FieldPick)
    → count_to_last (ps ++ p ∷ []) ≡ cond (is_staying p) (suc (length ps)) (count_to_last ps)
count_more [] p = by_case (is_staying p)
  where
    by_case : (b : Bool) → cond (b || false) 1 0 ≡ cond {A = ℕ} b 1 0
    by_case true = refl
    by_case false = refl
count_more (q ∷ ps) p =
    ap (λ b. cond (is_staying q || b) (suc (count_to_last (ps ++ p ∷ []))) 0) (any_more ps p)
    ∙ ap (λ n. cond (is_staying q || (list_any is_staying ps || is_staying p)) (suc n) 0) (count_more ps p)
    ∙ by_case (is_staying q) (list_any is_staying ps) (is_staying p) (length ps) (count_to_last ps)
  where
    by_case : (a b c : Bool) (n k : ℕ)
        → cond (a || (b || c)) (suc (cond c (suc n) k)) 0 ≡ cond {A = ℕ} c (suc (suc n)) (cond (a || b) (suc k) 0)
    by_case true b true n k = refl
    by_case true b false n k = refl
    by_case false true true n k = refl
    by_case false true false n k = refl
    by_case false false true n k = refl
    by_case false false false n k = refl

-- none of them stays if the number is 0, and one stays otherwise
pub none_stays : (ps : List FieldPick) → count_to_last ps ≡ 0 → list_any is_staying ps ≡ false
none_stays [] is = refl
none_stays (p ∷ ps) is = by_case (list_any is_staying (p ∷ ps)) is
  where
    by_case : (b : Bool) → cond b (suc (count_to_last ps)) 0 ≡ 0 → b ≡ false
    by_case true is = absurd (omega (arith, is))
    by_case false is = refl

pub one_stays : (ps : List FieldPick) → 0 < count_to_last ps → list_any is_staying ps ≡ true
one_stays [] some = absurd (omega (arith, some))
one_stays (p ∷ ps) some = by_case (list_any is_staying (p ∷ ps)) some
  where
    by_case : (b : Bool) → 0 < cond b (suc (count_to_last ps)) 0 → b ≡ true
    by_case true some = refl
    by_case false some = absurd (omega (arith, some))

-- the number without the first pick is one less
pub count_rest : (p : FieldPick) (ps : List FieldPick) → 0 < count_to_last (p ∷ ps) → count_to_last (p ∷ ps) ≡ suc (count_to_last ps)
count_rest p ps some = ap (λ b. cond b (suc (count_to_last ps)) 0) (one_stays (p ∷ ps) some)

pub count_within : (ps : List FieldPick) → count_to_last ps ≤ length ps
count_within [] = omega arith
count_within (p ∷ ps) = by_case (list_any is_staying (p ∷ ps)) (count_within ps)
  where
    by_case : (b : Bool) → count_to_last ps ≤ length ps → cond b (suc (count_to_last ps)) 0 ≤ suc (length ps)
    by_case true small = omega (arith, small)
    by_case false small = omega arith

-- whether a mapped list is empty is whether its length is 0
pub none_is : {A B : Type 0} (view : A → B) (xs : List A) {b : Bool} → (length xs == 0) ≡ b → is_empty_list (map view xs) ≡ b
none_is view [] is = is
none_is view (x ∷ xs) is = let some : (length (x ∷ xs) == 0) ≡ false = grind (arith, nat_tests) in sym some ∙ is

-- the number isn't 0 if one of them stays
pub some_count : (ps : List FieldPick) → list_any is_staying ps ≡ true → 0 < count_to_last ps
some_count [] one = absurd (cc)
some_count (p ∷ ps) one =
    let is : count_to_last (p ∷ ps) ≡ suc (count_to_last ps) = ap (λ b. cond b (suc (count_to_last ps)) 0) one in omega (arith, is)
