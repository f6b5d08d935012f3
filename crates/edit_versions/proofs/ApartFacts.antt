-- No two units of a version have the same name.
use Rattle.std.proofs.Common.{◌≡◌, inl, inr, ℕ, suc, ◌+◌, ◌<◌, ◌≤◌, ◌^◌, true, false, cond, List, [], ◌∷◌, ◌++◌, codes, length, map, take, refl, sym, ap, ◌∙◌, subst, arith, length-append, not}
use Rattle.std.specs.Prelude.{◌==◌, bytes_eq}
use Rattle.std.specs.Fmt.{decimal}
use Rattle.std.specs.List.{AllByRecursion, before_first, count_by, prefix_len}
use Rattle.std.proofs.lemmas.Bool.{cases_eq, ne_eqb}
use Rattle.std.proofs.lemmas.Fmt.{decimal_injective, decimal_is_IsNumeral}
use Rattle.std.proofs.lemmas.List.{append_cancel_left, length-map}
use Rattle.std.proofs.lemmas.Slice.Eq.{bytes_eq-Decides}
use Rattle.std.proofs.lemmas.List.Sums.{count_by-le-length}
use Rattle.std.specs.Char.{digit_value}
use Rattle.std.specs.Str.Parse.{AllDigits}
use Rattle.bib_text.proofs.ListFacts.{count_more}
use Rattle.edit_versions.specs.Versions.{VersionReading, own_name, unique_names, version_names}
use Rattle.edit_versions.specs.Distinct.{AreAllDifferent}

-- ---- a number, a space and an own name

not_space : (c : ℕ) → digit_value c < 10 → (c == 32) ≡ false
not_space c digit =
    elim (cases_eq c 32) [
      | inl same ↦ absurd (let at_space : digit_value 32 < 10 = subst (λ x. digit_value x < 10) same digit in omega (arith, at_space))
      | inr other ↦ ne_eqb c 32 other
    ]

digits_end : (ds rest : List ℕ) → AllDigits 10 ds → before_first (λ b. b == 32) (ds ++ 32 ∷ rest) ≡ ds
digits_end [] rest all = refl
digits_end (d ∷ ds) rest all =
    let size : ℕ = prefix_len (λ b. not (b == 32)) (ds ++ 32 ∷ rest) in
    ap (λ b. take (cond (not b) (1 + size) 0) (d ∷ (ds ++ 32 ∷ rest))) (not_space d all.0)
    ∙ ap (λ n. take n (d ∷ (ds ++ 32 ∷ rest))) (let same : 1 + size ≡ suc size = omega arith in same)
    ∙ ap (λ l. d ∷ l) (digits_end ds rest all.1)

rest_same : (own other : List ℕ) → 32 ∷ own ≡ 32 ∷ other → own ≡ other
rest_same own other same = cc

name_parts : (k n : ℕ) (own other : List ℕ) → k < 2 ^ 64 → n < 2 ^ 64 → decimal k ++ (codes " " ++ own) ≡ decimal n ++ (codes " " ++ other)
    → (k ≡ n) × (own ≡ other)
name_parts k n own other small small' same =
    let digits : decimal k ≡ decimal n =
    sym (digits_end (decimal k) own (decimal_is_IsNumeral k small).0.1) ∙ ap (before_first (λ b. b == 32)) same
    ∙ digits_end (decimal n) other (decimal_is_IsNumeral n small').0.1 in (
      decimal_injective k n small small' digits,
      rest_same own other (append_cancel_left (decimal n) (32 ∷ own) (32 ∷ other) (ap (λ d. d ++ (32 ∷ own)) (sym digits) ∙ same)),
    )

-- ---- the names of units

-- a name with a number below the count of its own name among earlier units is no later name
later : (earlier owns : List (List ℕ)) (own : List ℕ) (k : ℕ) → length earlier + length owns < 2 ^ 64
    → k < count_by (bytes_eq own) earlier
    → AllByRecursion (λ name. decimal k ++ (codes " " ++ own) ≡ name → ⊥) (unique_names earlier owns)
later earlier [] own k fits below = _
later earlier (next ∷ owns) own k fits below =
    let counted : count_by (bytes_eq own) (earlier ++ next ∷ []) ≡ count_by (bytes_eq own) earlier + cond (bytes_eq own next) 1 0 =
    count_more (bytes_eq own) earlier next in
    let size : length (earlier ++ next ∷ []) ≡ length earlier + 1 = length-append earlier (next ∷ []) in
    let most : count_by (bytes_eq own) earlier ≤ length earlier = count_by-le-length (bytes_eq own) earlier in
    let most' : count_by (bytes_eq next) earlier ≤ length earlier = count_by-le-length (bytes_eq next) earlier in (
      λ same.
          let parts =
          name_parts k (count_by (bytes_eq next) earlier) own next (omega (arith, below, most, fits)) (omega (arith, most', fits)) same in
          let count : k < count_by (bytes_eq next) earlier = subst (λ n. k < count_by (bytes_eq n) earlier) parts.1 below in
          omega (arith, parts.0, count),
      later (earlier ++ next ∷ []) owns own k (omega (arith, fits, size)) (omega (arith, below, counted)),
    )

distinct_from : (earlier owns : List (List ℕ)) → length earlier + length owns < 2 ^ 64 → AreAllDifferent (unique_names earlier owns)
distinct_from earlier [] fits = _
distinct_from earlier (own ∷ owns) fits =
    let counted : count_by (bytes_eq own) (earlier ++ own ∷ []) ≡ count_by (bytes_eq own) earlier + cond (bytes_eq own own) 1 0 =
    count_more (bytes_eq own) earlier own in
    let equal : bytes_eq own own ≡ true = (bytes_eq-Decides own own).1 refl in
    let more : count_by (bytes_eq own) (earlier ++ own ∷ []) ≡ count_by (bytes_eq own) earlier + 1 =
    counted ∙ ap (λ b. count_by (bytes_eq own) earlier + cond b 1 0) equal in
    let size : length (earlier ++ own ∷ []) ≡ length earlier + 1 = length-append earlier (own ∷ []) in (
      later (earlier ++ own ∷ []) owns own (count_by (bytes_eq own) earlier) (omega (arith, fits, size)) (omega (arith, more)),
      distinct_from (earlier ++ own ∷ []) owns (omega (arith, fits, size)),
    )

pub names_are_distinct : (v : VersionReading) → length v.units < 2 ^ 64 → AreAllDifferent (version_names v)
names_are_distinct v fits =
    distinct_from [] (map (own_name v.text) v.units) (omega (arith, fits, length-map v.units (own_name v.text)))
