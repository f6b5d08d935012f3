-- The entries of a file, by their indices.
use Rattle.std.proofs.Common.{◌≡◌, ℕ, zero, suc, ◌<◌, Bool, true, false, List, [], ◌∷◌, ◌++◌, length, refl, sym, ap, ◌∙◌, subst, arith, inl, inr, ◌⊎◌, Option, None, Some, MatchOption, cond, ◌||◌}
use Rattle.std.specs.Prelude.{slice_get, bytes_eq}
use Rattle.std.specs.FinMap as by_name
use Rattle.std.specs.FinMap.{get-empty, get-insert}
use Rattle.std.proofs.lemmas.Bool.{both_ways, cases_Bool, or_parts}
use Rattle.std.proofs.lemmas.Cmp.{nat_list_cmp_total}
use Rattle.std.proofs.lemmas.List.Folds.{list_any-append}
use Rattle.std.proofs.lemmas.Map.Text.{is_eq-slice_cmp}
use Rattle.std.proofs.lemmas.Option.{slice_get_within}
use Rattle.bib_abbreviations.specs.Abbreviations.{Definitions, AreOneError}
use Rattle.bib_abbreviations.proofs.LawFacts.{error_is_one}
use Rattle.bib_syntax.specs.Reading.{FieldReading, EntryReading}
use Rattle.bib_syntax.specs.declared.raw.ParseError.{ParseError}
use Rattle.bib_collections.specs.Names.{with_claims, claims_for}
use Rattle.bib_collections.specs.Sorted.{ByText, by_bytes}
use Rattle.bib_entry.specs.declared.entry.Entry.{Entry}
use Rattle.bib_file_entries.specs.Bibliography.{Bibliography, claims, empty_bibliography, index_of, with_last_entry}
use Rattle.bib_file_entries.specs.Loaded.{AreEntries, IsFirstErrorOfEntries, IsFirstErrorOfFields, is_claimed, loaded_after}
use Rattle.bib_text.proofs.OptionFacts.{none_is_some}
use Rattle.biblatex.specs.Places.{ClaimsAt, IsLastClaim, PointsToLastClaims, HasFreshKeys}
use Rattle.bib_file_entries.proofs.LoadedFacts.{claims_same, fields_unread}

-- ---- the element at an index of a longer list

-- an element keeps its index when elements are added at the end
get_before : {A : Type 0} (xs ys : List A) (i : ℕ) (x : A) → slice_get xs i ≡ Some x → slice_get (xs ++ ys) i ≡ Some x
get_before [] ys i x found = cc
get_before (y ∷ xs) ys zero x found = found
get_before (y ∷ xs) ys (suc i) x found = get_before xs ys i x found

-- an element that is added at the end has the old length as its index
get_last : {A : Type 0} (xs : List A) (x : A) → slice_get (xs ++ x ∷ []) (length xs) ≡ Some x
get_last [] x = refl
get_last (y ∷ xs) x = get_last xs x

get_one : {A : Type 0} (x y : A) (i : ℕ) → slice_get (x ∷ []) i ≡ Some y → (i ≡ 0) × (x ≡ y)
get_one x y zero found = (refl, cc)
get_one x y (suc i) found = cc

-- an element of a list with one more at the end is an old one or the added one
get_cases : {A : Type 0} (xs : List A) (x y : A) (i : ℕ) → slice_get (xs ++ x ∷ []) i ≡ Some y
    → (slice_get xs i ≡ Some y) ⊎ ((i ≡ length xs) × (x ≡ y))
get_cases [] x y i found = inr (get_one x y i found)
get_cases (z ∷ xs) x y zero found = inl found
get_cases (z ∷ xs) x y (suc i) found = elim (get_cases xs x y i found) [
  | inl here ↦ inl here
  | inr last ↦ inr (ap suc last.0, last.1)
]

-- ---- names point to their last claims

one_claim : (test : Bool) (index : ℕ) (had : Option ℕ) (later : Bool)
    → cond later (Some index) (cond test (Some index) had) ≡ cond (test || later) (Some index) had
one_claim true index had true = refl
one_claim true index had false = refl
one_claim false index had later = refl

-- the index that a name points to after names were claimed for an index
get_claimed : (index : ℕ) (more : List (List ℕ)) (names : ByText ℕ) (name : List ℕ)
    → by_name.get (with_claims names (claims_for more index)) name ≡ cond (is_claimed more name) (Some index) (by_name.get names name)
get_claimed index [] names name = refl
get_claimed index (one ∷ more) names name =
    get_claimed index more (by_name.insert names one index) name
    ∙ ap (cond (is_claimed more name) (Some index))
    (get-insert nat_list_cmp_total names one index name
    ∙ ap (λ b. cond b (Some index) (by_name.get names name)) (is_eq-slice_cmp name one))
    ∙ one_claim (bytes_eq name one) index (by_name.get names name) (is_claimed more name)

-- an entry claims the same names when an entry is added
claims_before : {entries : List Entry} {index : ℕ} {name : List ℕ} (entry : Entry) → ClaimsAt entries index name
    → ClaimsAt (entries ++ entry ∷ []) index name
claims_before {entries} {index} entry at = record {
  entry = at.entry;
  there = get_before entries (entry ∷ []) index at.entry at.there;
  claims = at.claims;
}

-- after an entry is added, a claim is an old one or one of the added entry
claims_cases : {entries : List Entry} {index : ℕ} {name : List ℕ} (entry : Entry) → ClaimsAt (entries ++ entry ∷ []) index name
    → ClaimsAt entries index name ⊎ ((index ≡ length entries) × (is_claimed (claims entry) name ≡ true))
claims_cases {entries} {index} {name} entry at = elim (get_cases entries entry at.entry index at.there) [
  | inl before ↦ inl (record { entry = at.entry; there = before; claims = at.claims })
  | inr last ↦ inr (last.0, ap (λ e. is_claimed (claims e) name) last.1 ∙ at.claims)
]

-- an index with a claim is in range
claims_below : {entries : List Entry} {index : ℕ} {name : List ℕ} → ClaimsAt entries index name → index < length entries
claims_below {entries} {index} at = slice_get_within entries index at.entry at.there

-- after adding an entry, the last claim of a name is that of the entry if it claims the name, and otherwise the old one
points_next : (entries : List Entry) (entry : Entry) (name : List ℕ) (before : Option ℕ)
    → MatchOption before ((index : ℕ) → ClaimsAt entries index name → ⊥) (IsLastClaim entries name)
    → MatchOption (cond (is_claimed (claims entry) name) (Some (length entries)) before)
    ((index : ℕ) → ClaimsAt (entries ++ entry ∷ []) index name → ⊥) (IsLastClaim (entries ++ entry ∷ []) name)
points_next entries entry name before points = elim (cases_Bool (is_claimed (claims entry) name)) [
  | inl claims ↦ rw claims record {
    here = record { entry = entry; there = get_last entries entry; claims = claims };
    last = λ other at. elim (claims_cases entry at) [
      | inl earlier ↦ let below = claims_below earlier in omega arith
      | inr last ↦ omega (arith, last.0)
    ];
  }
  | inr other ↦ rw other (kept before points other)
] where
  kept : (before : Option ℕ) → MatchOption before ((index : ℕ) → ClaimsAt entries index name → ⊥) (IsLastClaim entries name)
      → is_claimed (claims entry) name ≡ false
      → MatchOption before ((index : ℕ) → ClaimsAt (entries ++ entry ∷ []) index name → ⊥) (IsLastClaim (entries ++ entry ∷ []) name)
  kept None points other = λ index at. elim (claims_cases entry at) [
    | inl earlier ↦ points index earlier
    | inr last ↦ both_ways _ other last.1
  ]
  kept (Some k) points other = record {
    here = claims_before entry points.here;
    last = λ index at. elim (claims_cases entry at) [
      | inl earlier ↦ points.last index earlier
      | inr last ↦ absurd (both_ways _ other last.1)
    ];
  }

-- adding an entry keeps each name pointing to its last claim
points_appended : (bibliography : Bibliography) (entry : Entry) → PointsToLastClaims bibliography
    → PointsToLastClaims (with_last_entry bibliography entry)
points_appended bibliography entry points name =
    rw (get_claimed (length bibliography.entries) (claims entry) bibliography.names name)
    (points_next bibliography.entries entry name (index_of bibliography name) (points name))

-- adding entries keeps each name pointing to its last claim
points_after : (bibliography : Bibliography) (entries : List Entry) → PointsToLastClaims bibliography
    → PointsToLastClaims (loaded_after bibliography entries)
points_after bibliography [] points = points
points_after bibliography (entry ∷ entries) points =
    points_after (with_last_entry bibliography entry) entries (points_appended bibliography entry points)

-- in the empty bibliography no name points to an index, and no entry claims one
points_nothing : PointsToLastClaims empty_bibliography
points_nothing name = rw (get-empty by_bytes name) (λ index at. none_is_some at.there)

-- in a bibliography of added entries each name points to its last claim
pub points_loaded : (own : List Entry) → PointsToLastClaims (loaded_after empty_bibliography own)
points_loaded own = points_after empty_bibliography own points_nothing

-- ---- keys are fresh

-- no key of the entries is a name that was claimed before them
key_fresh : {definitions : Definitions} {earlier : List (List ℕ)} {said : List EntryReading} {entries : List Entry}
    (index : ℕ) (entry : Entry)
    → AreEntries definitions earlier said entries → slice_get entries index ≡ Some entry → is_claimed earlier entry.key ≡ false
key_fresh index entry AreEntries.none found = absurd (none_is_some found)
key_fresh {earlier = earlier} zero entry (AreEntries.next {entry = first} fresh read rest) found =
    let same : first ≡ entry = cc found in
    ap (λ e. is_claimed earlier e.key) (sym same) ∙ ap (is_claimed earlier) read.key ∙ fresh
key_fresh {earlier = earlier} (suc index) entry (AreEntries.next {entry = first} fresh read rest) found =
    (or_parts (is_claimed earlier entry.key) (is_claimed (claims first) entry.key)
    (sym (list_any-append (bytes_eq entry.key) earlier (claims first)) ∙ key_fresh index entry rest found)).0

-- no key of own entries is a name that an earlier entry claims
pub keys_fresh : {definitions : Definitions} {claimed : List (List ℕ)} {said : List EntryReading} {entries : List Entry}
    → AreEntries definitions claimed said entries → HasFreshKeys entries
keys_fresh AreEntries.none earlier later entry before found at = none_is_some found
keys_fresh (AreEntries.next fresh read rest) earlier zero entry before found at = omega (arith, before)
keys_fresh {claimed = claimed} (AreEntries.next {entry = first} fresh read rest) zero (suc later) entry before found at =
    let same : first ≡ at.entry = first_is at.there in
    let none =
    (or_parts (is_claimed claimed entry.key) (is_claimed (claims first) entry.key)
    (sym (list_any-append (bytes_eq entry.key) claimed (claims first)) ∙ key_fresh later entry rest found)).1
    in
    both_ways _ none (ap (λ e. is_claimed (claims e) entry.key) same ∙ at.claims) where
      first_is : {x y : Entry} → Some x ≡ Some y → x ≡ y
      first_is e = cc
keys_fresh (AreEntries.next fresh read rest) (suc earlier) (suc later) entry before found at =
    keys_fresh rest earlier later entry (omega (arith, before)) found (record { entry = at.entry; there = at.there; claims = at.claims })

-- ---- two first errors of entries agree

-- two first errors of fields agree
fields_error_same : {definitions : Definitions} {fields : List FieldReading} {e f : ParseError}
    → IsFirstErrorOfFields definitions fields e → IsFirstErrorOfFields definitions fields f → AreOneError e f
fields_error_same (IsFirstErrorOfFields.here error unread) (IsFirstErrorOfFields.here error' unread') = error_is_one error error'
fields_error_same (IsFirstErrorOfFields.here error unread) (IsFirstErrorOfFields.following read error') = absurd (unread read)
fields_error_same (IsFirstErrorOfFields.following read error) (IsFirstErrorOfFields.here error' unread) = absurd (unread read)
fields_error_same (IsFirstErrorOfFields.following read error) (IsFirstErrorOfFields.following read' error') = fields_error_same error error'

-- two first errors of entries agree
pub entries_error_same : {definitions : Definitions} {earlier : List (List ℕ)} {said : List EntryReading}
    {e f : ParseError} → IsFirstErrorOfEntries definitions earlier said e
    → IsFirstErrorOfEntries definitions earlier said f → AreOneError e f
entries_error_same (IsFirstErrorOfEntries.duplicate was is) (IsFirstErrorOfEntries.duplicate was' is') = inl (is ∙ sym is')
entries_error_same (IsFirstErrorOfEntries.duplicate was is) (IsFirstErrorOfEntries.unreadable fresh error) = absurd (both_ways _ fresh was)
entries_error_same (IsFirstErrorOfEntries.duplicate was is) (IsFirstErrorOfEntries.following fresh read error) =
    absurd (both_ways _ fresh was)
entries_error_same (IsFirstErrorOfEntries.unreadable fresh error) (IsFirstErrorOfEntries.duplicate was is) = absurd (both_ways _ fresh was)
entries_error_same (IsFirstErrorOfEntries.unreadable fresh error) (IsFirstErrorOfEntries.unreadable fresh' error') =
    fields_error_same error error'
entries_error_same (IsFirstErrorOfEntries.unreadable fresh error) (IsFirstErrorOfEntries.following fresh' read error') =
    absurd (fields_unread error read.readable)
entries_error_same (IsFirstErrorOfEntries.following fresh read error) (IsFirstErrorOfEntries.duplicate was is) =
    absurd (both_ways _ fresh was)
entries_error_same (IsFirstErrorOfEntries.following fresh read error) (IsFirstErrorOfEntries.unreadable fresh' error') =
    absurd (fields_unread error' read.readable)
entries_error_same {definitions} {earlier} {f = f}
    (IsFirstErrorOfEntries.following {rest = rest} {entry = one} fresh read error)
    (IsFirstErrorOfEntries.following {entry = two} fresh' read' error') =
    entries_error_same error
    (subst (λ names. IsFirstErrorOfEntries definitions (earlier ++ names) rest f) (claims_same two one read' read)
    error')
