-- Facts about the counts of names, and about the rows of a table.
use Rattle.std.proofs.Common.{◌≡◌, ℕ, ◌+◌, ◌||◌, Bool, true, false, List, [], ◌∷◌, ◌++◌, map, refl, sym, ap, subst, ◌∙◌, arith, cond, true≢false}
use Rattle.std.proofs.lemmas.Bool.{false≢true}
use Rattle.std.specs.Prelude.{Option, Some, None, min, bytes_eq, count_by, unwrap_or, if◌then◌else◌}
use Rattle.std.specs.BTreeMap.{is_at}
use Rattle.std.specs.Cmp.Lexicographic.{slice_cmp}
use Rattle.std.specs.List.{AllByRecursion, list_any}
use Rattle.std.specs.List.Sorted.{IsStrictlySortedBy}
use Rattle.std.specs.Map.{keys_of, lookup}
use Rattle.std.specs.Ordering.{nat_cmp}
use Rattle.std.specs.declared.cmp.Ordering.TheVariants.{Less}
use Rattle.std.specs.Prelude.{String}
use Rattle.std.specs.String.{string_bytes, string_cmp}
use Rattle.std.proofs.lemmas.List.Folds.{list_any-append}
use Rattle.std.proofs.lemmas.List.Sums.{sum_by-append}
use Rattle.std.proofs.lemmas.Map.Text.{is_eq-slice_cmp}
use Rattle.std.proofs.lemmas.Slice.Eq.{bytes_eq-Decides}
use Rattle.bibkit_core.specs.Tables.{AreByName, name_and_count, times_met}
use Rattle.bibkit_core.specs.declared.tables.Row.{Row}
use Rattle.bib_text.proofs.ListFacts.{count_more, count_none}

-- the name and the count of an entry of a map
abbrev pub entry_pair : {Y : Type 0} → String Y × ℕ → List ℕ × ℕ
entry_pair e = (string_bytes e.0, e.1)

-- adding one to a capped count, which is 0 if it is missing, gives the capped count of one more
one_more : (greatest : ℕ) (any : Bool) (n : ℕ) → (any ≡ false → n ≡ 0)
    → min (unwrap_or (if any then Some (min n greatest) else None) 0 + 1) greatest ≡ min (n + 1) greatest
one_more greatest true n none = omega arith
one_more greatest false n none = let zero : n ≡ 0 = none refl in omega arith

-- if the Boolean `any` is true, equal numbers have equal capped counts, also by the test of `any`
shown : (greatest : ℕ) (any : Bool) (n m : ℕ) → any ≡ true → n ≡ m → Some (min m greatest) ≡ (if any then Some (min n greatest) else None)
shown greatest true n m is same = ap (λ k. Some (min k greatest)) (sym same)
shown greatest false n m is same = absurd (false≢true is)

-- if two Booleans and two numbers are equal, the capped counts are equal (`None` if the Boolean is false)
shown_same : (greatest : ℕ) (a b : Bool) (n m : ℕ) → a ≡ b → n ≡ m
    → (if b then Some (min m greatest) else None) ≡ (if a then Some (min n greatest) else None)
shown_same greatest a b n m same count =
    ap (λ c. if c then Some (min m greatest) else None) (sym same)
    ∙ ap (λ k. if a then Some (min k greatest) else None) (sym count)

or_at_end : (a b : Bool) → b ≡ true → (a || (b || false)) ≡ true
or_at_end true b is = refl
or_at_end false true is = refl
or_at_end false false is = is

or_none : (a b : Bool) → b ≡ false → (a || (b || false)) ≡ a
or_none true b isnt = refl
or_none false false isnt = refl
or_none false true isnt = isnt

-- after one more occurrence of a name, its count is the old count (0 if missing) plus one, capped
met_again : (names : List (List ℕ)) (name : List ℕ)
    → Some (min (unwrap_or (times_met names name) 0 + 1) 18446744073709551615) ≡ times_met (names ++ name ∷ []) name
met_again names name =
    let p : List ℕ → Bool = bytes_eq name in
    let same : p name ≡ true = (bytes_eq-Decides name name).1 refl in
    ap Some (one_more 18446744073709551615 (list_any p names) (count_by p names) (count_none p names))
    ∙ shown 18446744073709551615 (list_any p (names ++ name ∷ [])) (count_by p (names ++ name ∷ [])) (count_by p names + 1)
    (list_any-append p names (name ∷ []) ∙ or_at_end (list_any p names) (p name) same)
    (count_more p names name ∙ ap (λ b. count_by p names + cond b 1 0) same)

-- an occurrence of one name leaves the counts of the others unchanged
met_other : (names : List (List ℕ)) (name other : List ℕ) → bytes_eq other name ≡ false
    → times_met names other ≡ times_met (names ++ name ∷ []) other
met_other names name other apart =
    let none : cond {A = ℕ} (bytes_eq other name) 1 0 ≡ 0 = ap (λ b. cond {A = ℕ} b 1 0) apart in
    let more : count_by (bytes_eq other) (names ++ name ∷ []) ≡ count_by (bytes_eq other) names + 0 =
    count_more (bytes_eq other) names name ∙ ap (λ n. count_by (bytes_eq other) names + n) none in
    shown_same 18446744073709551615 (list_any (bytes_eq other) (names ++ name ∷ [])) (list_any (bytes_eq other) names)
    (count_by (bytes_eq other) (names ++ name ∷ [])) (count_by (bytes_eq other) names)
    (list_any-append (bytes_eq other) names (name ∷ [])
    ∙ or_none (list_any (bytes_eq other) names) (bytes_eq other name) apart) (omega (arith, more))

-- if two names differ, they also differ in the other order
apart_back : (name other : List ℕ) (b : Bool) → bytes_eq other name ≡ b → bytes_eq name other ≡ false → b ≡ false
apart_back name other true same apart =
    absurd (false≢true (sym apart ∙ (bytes_eq-Decides name other).1 (sym ((bytes_eq-Decides other name).0 same))))
apart_back name other false same apart = refl

-- after one more occurrence of `name`, the count of `other` is the new count if the names are equal, otherwise the old one; the Boolean
-- says whether they are equal
met_either : (names : List (List ℕ)) (name other : List ℕ) (count : ℕ) (was : Option ℕ) (b : Bool)
    → bytes_eq name other ≡ b → count ≡ min (unwrap_or (times_met names name) 0 + 1) 18446744073709551615
    → was ≡ times_met names other
    → cond b (Some count) was ≡ times_met (names ++ name ∷ []) other
met_either names name other count was true same counted held =
    ap Some counted ∙ met_again names name ∙ ap (times_met (names ++ name ∷ [])) ((bytes_eq-Decides name other).0 same)
met_either names name other count was false same counted held =
    held ∙ met_other names name other (apart_back name other (bytes_eq other name) refl same)

-- after one more occurrence of `name`, the count of `other` is the new count if the names are equal, otherwise the old one
pub met_more : (names : List (List ℕ)) (name other : List ℕ) (count : ℕ) (was : Option ℕ)
    → count ≡ min (unwrap_or (times_met names name) 0 + 1) 18446744073709551615 → was ≡ times_met names other
    → cond (bytes_eq name other) (Some count) was ≡ times_met (names ++ name ∷ []) other
met_more names name other count was counted held = met_either names name other count was (bytes_eq name other) refl counted held

-- if a key is less than each of the other keys as a string, it is less than each by its bytes
above_by_bytes : {Y : Type 0} (k : String Y) (ks : List (String Y)) → AllByRecursion (λ y. string_cmp k y ≡ Less) ks
    → AllByRecursion (λ y. slice_cmp nat_cmp (string_bytes k) y ≡ Less) (map string_bytes ks)
above_by_bytes k [] above = tt
above_by_bytes k (y ∷ ks) above = (above.0, above_by_bytes k ks above.1)

sorted_by_bytes : {Y : Type 0} (ks : List (String Y)) → IsStrictlySortedBy string_cmp ks
    → IsStrictlySortedBy (slice_cmp nat_cmp) (map string_bytes ks)
unfolding IsStrictlySortedBy
sorted_by_bytes [] sorted = tt
sorted_by_bytes (k ∷ ks) sorted = (above_by_bytes k ks sorted.0, sorted_by_bytes ks sorted.1)

-- looking up a name by equality with the bytes of the keys gives the same count as looking it up by comparison with them
found_by_bytes : {Y : Type 0} (name : List ℕ) (es : List (String Y × ℕ))
    → lookup (bytes_eq name) (map entry_pair es) ≡ lookup (is_at (λ k. slice_cmp nat_cmp name (string_bytes k))) es
found_by_bytes name [] = refl
found_by_bytes name (e ∷ es) =
    ap (λ b. cond b (Some e.1) (lookup (bytes_eq name) (map entry_pair es))) (sym (is_eq-slice_cmp name (string_bytes e.0)))
    ∙ ap (cond (is_at (λ k. slice_cmp nat_cmp name (string_bytes k)) e.0) (Some e.1)) (found_by_bytes name es)

-- the names of the entries of a map are the bytes of its keys
names_of_entries : {Y : Type 0} (es : List (String Y × ℕ)) → map (λ p. p.0) (map entry_pair es) ≡ map string_bytes (keys_of es)
names_of_entries [] = refl
names_of_entries (e ∷ es) = ap (λ ns. string_bytes e.0 ∷ ns) (names_of_entries es)

names_of_rows : (rows : List Row) → map (λ p. p.0) (map name_and_count rows) ≡ map (λ row. row.name.now) rows
names_of_rows [] = refl
names_of_rows (row ∷ rows) = ap (λ ns. row.name.now ∷ ns) (names_of_rows rows)

-- the entries of a map that has the count of each name are rows by name
pub rows_by_name : {Y : Type 0} (names : List (List ℕ)) (rows : List Row) (es : List (String Y × ℕ))
    → map name_and_count rows ≡ map entry_pair es → IsStrictlySortedBy string_cmp (keys_of es)
    → ((name : List ℕ) → lookup (is_at (λ k. slice_cmp nat_cmp name (string_bytes k))) es ≡ times_met names name) → AreByName names rows
rows_by_name names rows es same sorted found = record {
  counts = λ name. ap (lookup (bytes_eq name)) same ∙ found_by_bytes name es ∙ found name;
  sorted =
      subst (IsStrictlySortedBy (slice_cmp nat_cmp))
      (sym (names_of_entries es) ∙ ap (map (λ p. p.0)) (sym same) ∙ names_of_rows rows)
      (sorted_by_bytes (keys_of es) sorted);
}
