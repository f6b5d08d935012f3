-- As many taken names as numbers: if each number from 2 on, up to a bound, makes a taken name, there are at least as many taken names.
use Rattle.std.proofs.Common.{◌≡◌, ℕ, zero, suc, ◌+◌, ◌<◌, ◌≤◌, ◌^◌, ◌||◌, Bool, true, false, cond, List, [], ◌∷◌, ◌++◌, length, map, refl, sym, ap, ◌∙◌, subst, arith}
use Rattle.std.specs.Prelude.{String, bytes_eq, string_bytes}
use Rattle.std.specs.BTreeSet.{btree_set_len, contains_text}
use Rattle.std.specs.Cmp.Lexicographic.{slice_cmp}
use Rattle.std.specs.Fmt.{decimal}
use Rattle.std.specs.Global.{Global}
use Rattle.std.specs.List.{AllByRecursion, IsDistinct, list_any}
use Rattle.std.specs.Ordering.{is_eq, nat_cmp}
use Rattle.std.specs.Set.{is_member}
use Rattle.std.proofs.lemmas.Bool.{false≢true, ne_eqb}
use Rattle.std.proofs.lemmas.Cmp.{nat_list_eq_equiv}
use Rattle.std.proofs.lemmas.Fmt.{decimal_injective}
use Rattle.std.proofs.lemmas.List.{append_cancel_left, length-map}
use Rattle.std.proofs.lemmas.Map.Made.{length-le_from_is_member}
use Rattle.std.proofs.lemmas.Map.Text.{is_eq-slice_cmp}
use Rattle.std.proofs.lemmas.Slice.Eq.{bytes_eq-Decides}
use Rattle.edit_strings.specs.Collected.{is_month, number_after}
use Rattle.edit_strings.specs.Collecting.{AreUsedBelow, has_lowercase, is_plain_name, is_taken, is_used}
use Rattle.edit_strings.specs.declared.taken.Taken.{Taken}
use Rattle.edit_strings.proofs.NameFacts.{name_lower, numbered_no_month, numbered_plain}

-- ---- the names with the numbers from one on

names_from : List ℕ → ℕ → ℕ → List (List ℕ)
names_from base first zero = []
names_from base first (suc count) = (base ++ decimal first) ∷ names_from base (suc first) count

length-names : (base : List ℕ) (first count : ℕ) → length (names_from base first count) ≡ count
unfolding names_from
length-names base first zero = refl
length-names base first (suc count) = ap suc (length-names base (suc first) count)

-- two numbers make two names
differ : (base : List ℕ) (a b : ℕ) → a < b → b < 2 ^ 64 → bytes_eq (base ++ decimal a) (base ++ decimal b) ≡ false
differ base a b less small = by_case (bytes_eq (base ++ decimal a) (base ++ decimal b)) refl
  where
    by_case : (c : Bool) → bytes_eq (base ++ decimal a) (base ++ decimal b) ≡ c → bytes_eq (base ++ decimal a) (base ++ decimal b) ≡ false
    by_case true is =
        let same : decimal a ≡ decimal b =
        append_cancel_left base (decimal a) (decimal b) ((bytes_eq-Decides (base ++ decimal a) (base ++ decimal b)).0 is) in
        let number : a ≡ b = decimal_injective a b (omega arith) small same in
        absurd (omega arith)
    by_case false is = is

others_differ : (base : List ℕ) (a first count : ℕ) → a < first → first + count < 2 ^ 64
    → AllByRecursion (λ y. bytes_eq (base ++ decimal a) y ≡ false) (names_from base first count)
unfolding names_from
others_differ base a first zero less small = tt
others_differ base a first (suc count) less small =
    (differ base a first less (omega arith), others_differ base a (suc first) count (omega arith) (omega arith))

all_differ : (base : List ℕ) (first count : ℕ) → first + count < 2 ^ 64 → IsDistinct bytes_eq (names_from base first count)
unfolding names_from IsDistinct
all_differ base first zero small = tt
all_differ base first (suc count) small =
    (others_differ base first (suc first) count (omega arith) (omega arith), all_differ base (suc first) count (omega arith))

-- ---- taken names

-- the bytes of the taken names
abbrev keys_of : Taken → List (List ℕ)
keys_of taken = map string_bytes taken.names.keys

in_map : (n : List ℕ) (keys : List (String Global)) → list_any (λ k. is_eq (slice_cmp nat_cmp n (string_bytes k))) keys ≡ true
    → is_member bytes_eq (map string_bytes keys) n ≡ true
in_map n [] is = absurd (false≢true is)
in_map n (k ∷ ks) is =
    by_case (bytes_eq n (string_bytes k)) (in_map n ks) (sym (ap (λ b. b || list_any (λ k. is_eq (slice_cmp nat_cmp n (string_bytes k))) ks)
    (is_eq-slice_cmp n (string_bytes k))) ∙ is)
  where
    by_case : (b : Bool)
        → (list_any (λ k. is_eq (slice_cmp nat_cmp n (string_bytes k))) ks ≡ true → is_member bytes_eq (map string_bytes ks) n ≡ true)
        → (b || list_any (λ k. is_eq (slice_cmp nat_cmp n (string_bytes k))) ks) ≡ true
        → (b || is_member bytes_eq (map string_bytes ks) n) ≡ true
    by_case true later held = refl
    by_case false later held = later held

-- a used name that is a plain name with a number from 2 on is taken
used_taken : (taken : Taken) (base : List ℕ) (n : ℕ) → n < 2 ^ 64 → is_plain_name base ≡ true → 2 ≤ n
    → is_used taken (base ++ number_after n) ≡ true → is_member bytes_eq (keys_of taken) (base ++ decimal n) ≡ true
used_taken taken base n small plain two used =
    let after : number_after n ≡ decimal n = ap (λ b. cond b [] (decimal n)) (ne_eqb n 1 (λ same. absurd (omega arith))) in
    let name : List ℕ = base ++ decimal n in
    let is_plain : is_plain_name name ≡ true = sym (ap (λ l. is_plain_name (base ++ l)) after) ∙ numbered_plain base n small plain in
    let held : is_used taken name ≡ true = sym (ap (λ l. is_used taken (base ++ l)) after) ∙ used in
    let taken_lower : is_taken taken name ≡ true =
    sym (ap (λ b. b || is_taken taken name) (numbered_no_month base n small)) ∙ held in
    in_map name taken.names.keys (sym (ap (contains_text taken.names) (name_lower name is_plain)) ∙ taken_lower)

member : (taken : Taken) (base : List ℕ) (first count : ℕ) (name : List ℕ)
    → ((n : ℕ) → first ≤ n → n < first + count → is_member bytes_eq (keys_of taken) (base ++ decimal n) ≡ true)
    → is_member bytes_eq (names_from base first count) name ≡ true → is_member bytes_eq (keys_of taken) name ≡ true
unfolding names_from
member taken base first zero name known is = absurd (false≢true is)
member taken base first (suc count) name known is =
    by_case (bytes_eq name (base ++ decimal first)) refl
    (member taken base (suc first) count name (λ n from below. known n (omega arith) (omega arith))) is
  where
    by_case : (b : Bool) → bytes_eq name (base ++ decimal first) ≡ b
        → (is_member bytes_eq (names_from base (suc first) count) name ≡ true → is_member bytes_eq (keys_of taken) name ≡ true)
        → (b || is_member bytes_eq (names_from base (suc first) count) name) ≡ true → is_member bytes_eq (keys_of taken) name ≡ true
    by_case true same later held =
        subst (λ n. is_member bytes_eq (keys_of taken) n ≡ true) (sym ((bytes_eq-Decides name (base ++ decimal first)).0 same))
        (known first (omega arith) (omega arith))
    by_case false other later held = later held

-- the code's test of a name with a number: the name is in lowercase
pub used_is : (taken : Taken) (base name : List ℕ) (number : ℕ) → number < 2 ^ 64 → is_plain_name base ≡ true
    → name ≡ base ++ number_after number → (is_month name || has_lowercase taken name) ≡ is_used taken name
used_is taken base name number small plain is =
    ap (λ n. is_month name || has_lowercase taken n)
    (sym (name_lower name (ap is_plain_name is ∙ numbered_plain base number small plain)))

-- if each number from 1 on below a bound makes a used name, the bound is at most the number of taken names plus 2. This holds if `base`
-- is a plain name, and the bound is less than 2^64
pub bound_taken : (taken : Taken) (base : List ℕ) (number : ℕ) → number < 2 ^ 64 → is_plain_name base ≡ true
    → AreUsedBelow taken base number → number ≤ btree_set_len taken.names + 2
bound_taken taken base zero small plain used = omega arith
bound_taken taken base (suc zero) small plain used = omega arith
bound_taken taken base (suc (suc count)) small plain used =
    let few =
    length-le_from_is_member nat_list_eq_equiv (names_from base 2 count) (keys_of taken) (all_differ base 2 count (omega arith))
    (λ name is.
    member taken base 2 count name
    (λ n from below.
    used_taken taken base n (omega arith) plain from (used n (omega arith) (omega arith))) is) in
    omega (arith, few, length-names base 2 count, length-map taken.names.keys string_bytes)
