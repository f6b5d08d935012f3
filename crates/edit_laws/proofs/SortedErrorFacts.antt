-- If no two entries of an accepted file claim one name, the sorted file has no error.
use Rattle.std.proofs.Common.{◌≡◌, ℕ, zero, suc, ◌<◌, List, [], ◌∷◌, ◌++◌, Bool, true, false, get_or, length, refl, sym, ap, ◌∙◌, subst, arith}
use Rattle.std.specs.Prelude.{bytes_eq, codes, ◌||◌}
use Rattle.std.specs.Option.{option_map_or}
use Rattle.std.proofs.lemmas.List.Folds.{list_any-append}
use Rattle.bib_chunks.specs.Lists.{comma_texts}
use Rattle.std.specs.List.{AllByRecursion, AllZip, list_any}
use Rattle.std.specs.List.Sorted.{SwapsInRange, apply_swaps}
use Rattle.std.proofs.lemmas.Option.{slice_get-get_or}
use Rattle.bib_abbreviations.specs.Abbreviations.{Definitions}
use Rattle.bib_collections.specs.Graph.{refs_of}
use Rattle.bib_entry.specs.declared.entry.Entry.{Entry}
use Rattle.bib_file_entries.specs.Loaded.{AllCanBeRead, definition_in, is_claimed}
use Rattle.bib_inheritance.specs.EntryTexts.{EntryTexts, no_entry}
use Rattle.bib_inheritance.specs.Resolving.{is_bad_date, texts_of_entries, texts_of_entry}
use Rattle.bib_syntax.specs.Reading.{EntryReading, FileReading}
use Rattle.bib_syntax.specs.declared.raw.ParseError.{ParseError}
use Rattle.bib_text.proofs.ListFacts.{found_any, all_zip_length}
use Rattle.bib_text.proofs.BytesFacts.{bytes_itself}
use Rattle.biblatex.specs.Places.{ClaimsAt}
use Rattle.biblatex.specs.Resolved.{AreOwn, IsAccepted, IsFirstErrorOf, graph_of}
use Rattle.edit_laws.proofs.AlikeFacts.{definitions_alike}
use Rattle.edit_laws.proofs.LiftFacts.{at_texts}
use Rattle.edit_laws.proofs.MovedFacts.{no_bad_date, no_cycle_moved}
use Rattle.edit_laws.proofs.ReadAlikeFacts.{abbreviations_alike}
use Rattle.edit_laws.proofs.ReplacedFacts.{bare_entries_alike}
use Rattle.edit_laws.proofs.SortedFacts.{IsPermutedRead, names_permuted, no_raw, permuted_moved, unreferenced}
use Rattle.edit_laws.proofs.SwapFacts.{after_before, after_swaps, before_swaps, before_within, get_swaps, length_swaps}
use Rattle.edit_laws.proofs.TextFacts.{AreTexts, AreTextsOf, claims_are, claims_by, each_texts, own_at, texts_are}
use Rattle.edit_laws.proofs.AcceptedFacts.{texts_faultless}
use Rattle.edit_laws.specs.SameEntries.{AreClaimsDistinct}

zip_by : {A B : Type 0} (R : A → B → Type 0) (d : A) (e : B) (xs : List A) (ys : List B) → length xs ≡ length ys
    → ((i : ℕ) → i < length xs → R (get_or xs i d) (get_or ys i e)) → AllZip R xs ys
zip_by R d e [] [] long each = tt
zip_by R d e [] (y ∷ ys) long each = absurd (omega (arith, long))
zip_by R d e (x ∷ xs) [] long each = absurd (omega (arith, long))
zip_by R d e (x ∷ xs) (y ∷ ys) long each =
    (each 0 (omega arith), zip_by R d e xs ys (omega (arith, long)) (λ i below. each (suc i) (omega (arith, below))))

zip_get : {A B : Type 0} (R : A → B → Type 0) (d : A) (e : B) (xs : List A) (ys : List B) (i : ℕ) → AllZip R xs ys → i < length xs
    → R (get_or xs i d) (get_or ys i e)
zip_get R d e [] ys i all below = absurd (omega (arith, below))
zip_get R d e (x ∷ xs) [] i all below = absurd all
zip_get R d e (x ∷ xs) (y ∷ ys) zero all below = all.0
zip_get R d e (x ∷ xs) (y ∷ ys) (suc i) all below = zip_get R d e xs ys i all.1 (omega (arith, below))

all_by : {A : Type 0} (P : A → Type 0) (d : A) (xs : List A) → ((i : ℕ) → i < length xs → P (get_or xs i d)) → AllByRecursion P xs
all_by P d [] each = tt
all_by P d (x ∷ xs) each = (each 0 (omega arith), all_by P d xs (λ i below. each (suc i) (omega (arith, below))))

all_get : {A : Type 0} (P : A → Type 0) (d : A) (xs : List A) (i : ℕ) → AllByRecursion P xs → i < length xs → P (get_or xs i d)
all_get P d [] i all below = absurd (omega (arith, below))
all_get P d (x ∷ xs) zero all below = all.0
all_get P d (x ∷ xs) (suc i) all below = all_get P d xs i all.1 (omega (arith, below))

-- no entry claims the key of a later one
abbrev AreApart : List EntryReading → List EntryTexts → Type 0
AreApart [] ts = Unit {0}
AreApart (s ∷ es) [] = Unit {0}
AreApart (s ∷ es) (t ∷ ts) =
    AllByRecursion (λ (later : EntryReading). is_claimed (claims_by s.key.text t) later.key.text ≡ false) es × AreApart es ts

apart_by : (es : List EntryReading) (ts : List EntryTexts)
    → ((i j : ℕ) → i < j → j < length es
    → is_claimed (claims_by (get_or es i no_raw).key.text (get_or ts i no_entry)) (get_or es j no_raw).key.text ≡ false) → AreApart es ts
apart_by [] ts each = tt
apart_by (s ∷ es) [] each = tt
apart_by (s ∷ es) (t ∷ ts) each = (
  all_by (λ (later : EntryReading). is_claimed (claims_by s.key.text t) later.key.text ≡ false) no_raw es
      (λ j below. each 0 (suc j) (omega arith) (omega (arith, below))),
  apart_by es ts (λ i j less below. each (suc i) (suc j) (omega (arith, less)) (omega (arith, below))),
)

both_free : (earlier more : List (List ℕ)) (es : List EntryReading)
    → AllByRecursion (λ (s : EntryReading). is_claimed earlier s.key.text ≡ false) es
    → AllByRecursion (λ (s : EntryReading). is_claimed more s.key.text ≡ false) es
    → AllByRecursion (λ (s : EntryReading). is_claimed (earlier ++ more) s.key.text ≡ false) es
both_free earlier more [] first second = tt
both_free earlier more (s ∷ es) first second = (
  list_any-append (bytes_eq s.key.text) earlier more ∙ ap (λ b. b || is_claimed more s.key.text) first.0 ∙ second.0,
  both_free earlier more es first.1 second.1,
)

texts_by : {definitions : Definitions} (es : List EntryReading) (ts : List EntryTexts) (earlier : List (List ℕ))
    → AllZip (AreTextsOf definitions) es ts → AllByRecursion (λ (s : EntryReading). AllCanBeRead definitions s.fields) es
    → AllByRecursion (λ (s : EntryReading). is_claimed earlier s.key.text ≡ false) es → AreApart es ts
    → AreTexts definitions earlier es ts
texts_by [] [] earlier all read free apart = AreTexts.none
texts_by [] (t ∷ ts) earlier all read free apart = absurd all
texts_by (s ∷ es) [] earlier all read free apart = absurd all
texts_by (s ∷ es) (t ∷ ts) earlier all read free apart =
    AreTexts.next free.0 all.0 read.0
    (texts_by es ts (earlier ++ claims_by s.key.text t) all.1 read.1 (both_free earlier
    (claims_by s.key.text t) es free.1 apart.0) apart.1)

each_read : {definitions : Definitions} {earlier : List (List ℕ)} {said : List EntryReading} {ts : List EntryTexts}
    → AreTexts definitions earlier said ts → AllByRecursion (λ (s : EntryReading). AllCanBeRead definitions s.fields) said
each_read AreTexts.none = tt
each_read (AreTexts.next fresh is can following) = (can, each_read following)

nothing_claimed : (es : List EntryReading) → AllByRecursion (λ (s : EntryReading). is_claimed [] s.key.text ≡ false) es
nothing_claimed [] = tt
nothing_claimed (s ∷ es) = (refl, nothing_claimed es)

module _ (said tells : FileReading) (r : IsPermutedRead said tells) (own : List Entry) (are : AreOwn said own)
    (distinct : AreClaimsDistinct own) where
  abbrev swaps : List (ℕ × ℕ)
  swaps = r.permutation.moves

  abbrev raw : List EntryReading
  raw = said.entries

  abbrev all_texts : List EntryTexts
  all_texts = texts_of_entries own

  raw_long : length raw ≡ length all_texts
  raw_long = all_zip_length (AreTextsOf (definition_in said.abbreviations)) raw all_texts (each_texts (texts_are are))

  abbrev sorted_texts : List EntryTexts
  sorted_texts = apply_swaps all_texts swaps

  raw_at : (i : ℕ) → get_or r.sorted i no_raw ≡ get_or raw (before_swaps swaps i) no_raw
  raw_at i = ap (λ l. get_or l i no_raw) r.permutation.is ∙ get_swaps raw swaps i no_raw r.permutation.below

  texts_at : (i : ℕ) → get_or sorted_texts i no_entry ≡ get_or all_texts (before_swaps swaps i) no_entry
  texts_at i = get_swaps all_texts swaps i no_entry (subst (λ n. SwapsInRange n swaps) raw_long r.permutation.below)

  sorted_long : length r.sorted ≡ length raw
  sorted_long = ap length r.permutation.is ∙ length_swaps raw swaps

  inside : (i : ℕ) → i < length r.sorted → before_swaps swaps i < length raw
  inside i below = before_within swaps i (length raw) r.permutation.below (subst (λ n. i < n) sorted_long below)

  -- if the key and texts of the raw entry at an index claim a name, the own entry there claims it
  claims_there : (n : ℕ) (name : List ℕ) → n < length raw
      → is_claimed (claims_by (get_or raw n no_raw).key.text (get_or all_texts n no_entry)) name ≡ true → ClaimsAt own n name
  claims_there n name below claimed =
      let at = own_at n (get_or raw n no_raw) are (slice_get-get_or raw n no_raw below) in
      record {
        entry = at.0;
        there = at.1;
        claims =
            ap (λ c. is_claimed c name)
            (claims_are at.0 ∙ ap (λ key. claims_by key (texts_of_entry at.0)) at.2.key
            ∙ ap (claims_by (get_or raw n no_raw).key.text) (sym (at_texts own n at.0 at.1)))
            ∙ claimed;
      }

  keys_apart : (i j : ℕ) → i < j → j < length r.sorted
      → is_claimed (claims_by (get_or r.sorted i no_raw).key.text (get_or sorted_texts i no_entry))
      (get_or r.sorted j no_raw).key.text ≡ false
  keys_apart i j less below =
      ap (λ (s : EntryReading). is_claimed (claims_by s.key.text (get_or sorted_texts i no_entry))
      (get_or r.sorted j no_raw).key.text) (raw_at i)
      ∙ ap (λ t. is_claimed (claims_by (get_or raw (before_swaps swaps i) no_raw).key.text t) (get_or r.sorted j no_raw).key.text)
      (texts_at i)
      ∙ ap
      (λ (s : EntryReading).
      is_claimed (claims_by (get_or raw (before_swaps swaps i) no_raw).key.text (get_or all_texts
      (before_swaps swaps i) no_entry)) s.key.text)
      (raw_at j)
      ∙ by_case
      (is_claimed (claims_by (get_or raw (before_swaps swaps i) no_raw).key.text (get_or all_texts (before_swaps swaps i) no_entry))
      (get_or raw (before_swaps swaps j) no_raw).key.text) refl
    where
      by_case : (b : Bool)
          → is_claimed (claims_by (get_or raw (before_swaps swaps i) no_raw).key.text (get_or all_texts (before_swaps swaps i) no_entry))
          (get_or raw (before_swaps swaps j) no_raw).key.text
          ≡ b → b ≡ false
      by_case false is = refl
      by_case true is =
          let same : before_swaps swaps i ≡ before_swaps swaps j =
          distinct (get_or raw (before_swaps swaps j) no_raw).key.text (before_swaps swaps i) (before_swaps swaps j)
          (claims_there (before_swaps swaps i) (get_or raw (before_swaps swaps j) no_raw).key.text (inside i (omega
          (arith, less, below))) is)
          (claims_there (before_swaps swaps j) (get_or raw (before_swaps swaps j) no_raw).key.text (inside j below)
          (ap (λ b. b || list_any (bytes_eq (get_or raw (before_swaps swaps j) no_raw).key.text)
          (option_map_or comma_texts ((get_or all_texts (before_swaps swaps j) no_entry).fields (codes "ids")) []))
          (bytes_itself (get_or raw (before_swaps swaps j) no_raw).key.text))) in
          let equal : i ≡ j = sym (after_before swaps i) ∙ ap (after_swaps swaps) same ∙ after_before swaps j in
          absurd (omega (arith, less, equal))

  -- the sorted texts are those of the sorted raw entries, and no key is claimed before
  pub sorted_are : AreTexts (definition_in said.abbreviations) [] r.sorted sorted_texts
  sorted_are =
      texts_by r.sorted sorted_texts []
      (zip_by (AreTextsOf (definition_in said.abbreviations)) no_raw no_entry r.sorted sorted_texts
      (sorted_long ∙ raw_long ∙ sym (length_swaps all_texts swaps))
      (λ i below.
      subst (λ s. AreTextsOf (definition_in said.abbreviations) s (get_or sorted_texts i no_entry)) (sym (raw_at i))
      (subst (AreTextsOf (definition_in said.abbreviations) (get_or raw (before_swaps swaps i) no_raw)) (sym (texts_at i))
      (zip_get (AreTextsOf (definition_in said.abbreviations)) no_raw no_entry raw all_texts (before_swaps swaps i)
      (each_texts (texts_are are)) (inside i below)))))
      (all_by (λ (s : EntryReading). AllCanBeRead (definition_in said.abbreviations) s.fields) no_raw r.sorted
      (λ i below.
      subst (λ (s : EntryReading). AllCanBeRead (definition_in said.abbreviations) s.fields) (sym (raw_at i))
      (all_get (λ (s : EntryReading). AllCanBeRead (definition_in said.abbreviations) s.fields) no_raw raw (before_swaps swaps i)
      (each_read (texts_are are)) (inside i below))))
      (nothing_claimed r.sorted) (apart_by r.sorted sorted_texts keys_apart)

-- if no two entries of an accepted file claim one name, the sorted file has no error
pub sorted_accepted : (said tells : FileReading) (r : IsPermutedRead said tells) (accepted : IsAccepted said) {error : ParseError}
    → AreClaimsDistinct accepted.own → IsFirstErrorOf tells error → ⊥
sorted_accepted said tells r accepted distinct (IsFirstErrorOf.entry error) =
    texts_faultless (definition_in said.abbreviations) (definition_in tells.abbreviations) [] r.sorted tells.entries
    (bare_entries_alike
    (definitions_alike said.abbreviations tells.abbreviations
    (abbreviations_alike said.abbreviations tells.abbreviations r.abbreviations))
    r.sorted tells.entries r.entries) (sorted_are said tells r accepted.own accepted.entries distinct) error
sorted_accepted said tells r accepted distinct (IsFirstErrorOf.cycle {own = others} {index = index} are first is) =
    no_cycle_moved (permuted_moved said tells r accepted.own others accepted.entries are) (length accepted.own)
    (names_permuted said tells r accepted.own others accepted.entries are distinct)
    (unreferenced said tells r accepted.own others accepted.entries are distinct) accepted.no_cycle index first.within first.cycle
sorted_accepted said tells r accepted distinct
    (IsFirstErrorOf.date {own = others} {values = values} {index = index} are none solves looks earlier is) =
    no_bad_date (permuted_moved said tells r accepted.own others accepted.entries are) (length accepted.own)
    (names_permuted said tells r accepted.own others accepted.entries are distinct)
    (unreferenced said tells r accepted.own others accepted.entries are distinct) accepted.no_cycle accepted.dates values solves index looks
    (found_any (is_bad_date values) (refs_of (graph_of others) index) is.reference is.first)
