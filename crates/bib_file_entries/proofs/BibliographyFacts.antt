-- Lemmas about bibliographies: the indices that names point to.
use Rattle.std.proofs.Common.{◌≡◌, ℕ, ◌-◌, ◌<◌, ◌≤◌, Bool, true, false, cond, List, [], ◌∷◌, length, get_or, Option, Some, None, refl, sym, ap, subst, ◌∙◌, arith, slice_get, option_and_then, is_some, unwrap_or, nat_lt, ◌==◌, if◌then◌else◌}
use Rattle.std.specs.Ordering.{eq_by_cmp}
use Rattle.std.proofs.lemmas.Bool.{false≢true}
use Rattle.std.proofs.lemmas.Bool.Decides.{nat_tests}
use Rattle.std.proofs.lemmas.Option.{slice_get-get_or}
use Rattle.std.proofs.lemmas.Cmp.{nat_list_cmp_total}
use Rattle.std.specs.FinMap as map
use Rattle.std.specs.FinMap.{get-empty, get-insert}
use Rattle.bib_entry.specs.declared.entry.Entry.{Entry}
use Rattle.bib_collections.specs.Sorted.{ByText, by_bytes}
use Rattle.bib_collections.specs.Names.{with_claims, claims_for, index_after_removal, without_index, AreIndicesBelow}
use Rattle.bib_file_entries.specs.Bibliography.{Bibliography, index_of, entry_of}
use Rattle.bib_collections.proofs.NamesFacts.{get-without_index}

same_value : {A : Type 0} (x y : A) → Some x ≡ Some y → x ≡ y
same_value x y e = ap (λ o. unwrap_or o x) e

no_value : {A B : Type 0} {x : A} → None ≡ Some x → B
no_value e = absurd (false≢true (ap is_some e))

-- all names of the empty map point below any number
pub below_empty : (n : ℕ) → AreIndicesBelow n map.empty
below_empty n q p is = no_value (sym (get-empty by_bytes q) ∙ is)

one_of : (b : Bool) (index p n : ℕ) (o : Option ℕ) → index < n → (o ≡ Some p → p < n) → cond b (Some index) o ≡ Some p → p < n
one_of true index p n o lt below is = subst (λ x. x < n) (same_value index p is) lt
one_of false index p n o lt below is = below is

-- all names point below `n` after one that does is inserted
pub below_insert : (n : ℕ) (m : ByText ℕ) (name : List ℕ) (index : ℕ) → AreIndicesBelow n m → index < n
    → AreIndicesBelow n (map.insert m name index)
below_insert n m name index below lt q p is =
    one_of (eq_by_cmp by_bytes q name) index p n (map.get m q) lt (below q p)
    (sym (get-insert nat_list_cmp_total m name index q) ∙ is)

-- all names point below `n` after names are claimed for an index below `n`
pub below_claimed : (n : ℕ) (names : List (List ℕ)) (m : ByText ℕ) (index : ℕ) → AreIndicesBelow n m → index < n
    → AreIndicesBelow n (with_claims m (claims_for names index))
below_claimed n [] m index below lt = below
below_claimed n (name ∷ names) m index below lt =
    below_claimed n names (map.insert m name index) index (below_insert n m name index below lt) lt

-- an index below `n`, after an index below `n` is removed, is below `n - 1`
still_below : (n taken index p : ℕ) → index < n → taken < n → index_after_removal taken index ≡ Some p → p < n - 1
still_below n taken index p lt taken_lt is =
    elim (index == taken) as
    (λ b.
    (index == taken) ≡ b → (if b then None else Some (if nat_lt taken index then index - 1 else index)) ≡ Some p
    → p < n - 1) [
      | true ↦ λ same e. no_value e
      | false ↦
          λ other e.
          elim (nat_lt taken index) as
          (λ b. nat_lt taken index ≡ b → Some (if b then index - 1 else index) ≡ Some p → p < n - 1) [
            | true ↦ λ following e. let v = same_value (index - 1) p e in grind (arith, nat_tests)
            | false ↦ λ before e. let v = same_value index p e in grind (arith, nat_tests)
          ] refl e
    ] refl is

kept_below : (n taken p : ℕ) (o : Option ℕ) → ((index : ℕ) → o ≡ Some index → index < n) → taken < n
    → option_and_then (index_after_removal taken) o ≡ Some p → p < n - 1
kept_below n taken p None below lt is = no_value is
kept_below n taken p (Some index) below lt is = still_below n taken index p (below index refl) lt is

-- all names point below `n - 1` after an index below `n` is removed
pub below_without_index : (n : ℕ) (m : ByText ℕ) (taken : ℕ) → AreIndicesBelow n m → taken < n
    → AreIndicesBelow (n - 1) (without_index m taken)
below_without_index n m taken below lt q p is = kept_below n taken p (map.get m q) (below q) lt (sym (get-without_index taken m q) ∙ is)

-- the entry at the index that a name points to is the entry of the name
pub found_at : (l : Bibliography) (name : List ℕ) (index : ℕ) (e : Entry) → index_of l name ≡ Some index
    → index < length l.entries → e ≡ get_or l.entries index e → Some e ≡ entry_of l name
found_at l name index e is lt here =
    ap Some here ∙ sym (ap (option_and_then (slice_get l.entries)) is ∙ slice_get-get_or l.entries index e lt)

-- names that point below a number point below any greater one
pub below_more : (n more : ℕ) (m : ByText ℕ) → AreIndicesBelow n m → n ≤ more → AreIndicesBelow more m
below_more n more m below le q p is = omega (arith, below q p is)
