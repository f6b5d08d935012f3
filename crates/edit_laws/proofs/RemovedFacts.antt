-- The entries of a file without one of them.
use Rattle.std.proofs.Common.{◌≡◌, ℕ, zero, suc, ◌+◌, ◌-◌, ◌<◌, ◌≤◌, List, [], ◌∷◌, ◌++◌, Bool, true, false, cond, get_or, length, map, refl, sym, ap, ◌∙◌, subst, arith, Some, None, Option, option_map, option_and_then}
use Rattle.std.specs.Prelude.{bytes_eq, nat_lt, slice_get, ◌||◌, ◌==◌}
use Rattle.std.specs.FinMap as by_name
use Rattle.std.specs.List.{AllZip, Contains, remove}
use Rattle.std.proofs.lemmas.Bool.Decides.{nat_tests}
use Rattle.std.proofs.lemmas.List.{ext_get_or, length-map}
use Rattle.std.proofs.lemmas.List.Edits.{get_or-remove_above, get_or-remove_below, length-remove}
use Rattle.std.proofs.lemmas.List.Folds.{list_any-append}
use Rattle.std.proofs.lemmas.Option.{slice_get-get_or, slice_get_within}
use Rattle.std.proofs.lemmas.Bool.{or_parts}
use Rattle.bib_abbreviations.specs.Abbreviations.{Definitions}
use Rattle.bib_collections.specs.Graph.{refs_of}
use Rattle.bib_collections.specs.Names.{index_after_removal}
use Rattle.bib_entry.specs.declared.entry.Entry.{Entry}
use Rattle.bib_file_entries.specs.Bibliography.{Bibliography}
use Rattle.bib_file_entries.specs.Loaded.{definition_in, is_claimed}
use Rattle.bib_inheritance.specs.EntryTexts.{EntryTexts, no_entry}
use Rattle.bib_inheritance.specs.Resolving.{is_bad_date, texts_of_entries, texts_of_entry}
use Rattle.bib_syntax.specs.Reading.{EntryReading, FileReading}
use Rattle.bib_syntax.specs.declared.raw.ParseError.{ParseError}
use Rattle.bib_text.proofs.ListFacts.{found_any, remove_mapped}
use Rattle.biblatex.proofs.ResolvedFacts.{graph_same, keys_same, names_same}
use Rattle.biblatex.specs.Places.{ClaimsAt, IsLastClaim}
use Rattle.biblatex.specs.Resolved.{AreOwn, IsAccepted, IsFirstErrorOf, IsLoaded, graph_of, names_of}
use Rattle.edit_entries.proofs.PlacelessFacts.{file_placeless}
use Rattle.edit_entries.specs.Documents.{Document, EntryRemoved}
use Rattle.edit_entries.specs.Edits.{moved_entry, moved_field, moved_place}
use Rattle.edit_laws.proofs.AcceptedFacts.{texts_faultless}
use Rattle.edit_laws.proofs.AlikeFacts.{DefineAlike, definitions_alike}
use Rattle.edit_laws.proofs.LiftFacts.{as_long, inherits_by, key_at}
use Rattle.edit_laws.proofs.MovedFacts.{AreMoved, claim_there, names_moved, no_bad_date, no_cycle_moved, same_moved}
use Rattle.edit_laws.proofs.ReadAlikeFacts.{AreAlikeEntries, abbreviations_alike}
use Rattle.edit_laws.proofs.ReplacedFacts.{bare_entries_alike, bare_keys}
use Rattle.edit_laws.proofs.SetFacts.{key_is}
use Rattle.edit_laws.proofs.TextFacts.{AreTexts, AreTextsOf, claims_by, each_texts, keys_are, own_at, texts_are}
use Rattle.edit_laws.proofs.TextFacts as texts
use Rattle.edit_laws.specs.WithoutEntry.{AreWithout, IsUnreferenced, IsBibliographyWithout}

-- ---- lists

AllZip-remove : {A B : Type 0} (R : A → B → Type 0) (xs : List A) (ys : List B) (k : ℕ) → AllZip R xs ys
    → AllZip R (remove xs k) (remove ys k)
AllZip-remove R [] [] zero all = tt
AllZip-remove R [] [] (suc k) all = tt
AllZip-remove R [] (y ∷ ys) k all = absurd all
AllZip-remove R (x ∷ xs) [] k all = absurd all
AllZip-remove R (x ∷ xs) (y ∷ ys) zero all = all.1
AllZip-remove R (x ∷ xs) (y ∷ ys) (suc k) all = (all.0, AllZip-remove R xs ys k all.1)

-- the old index of the entry that is at an index after the entry at `k` was removed
abbrev pub skip : ℕ → ℕ → ℕ
skip k i = cond (nat_lt i k) i (suc i)

get_skip : {A : Type 0} (xs : List A) (k i : ℕ) (d : A) → k < length xs → get_or (remove xs k) i d ≡ get_or xs (skip k i) d
get_skip xs k i d within = by_order (nat_lt i k) refl
  where
    by_order : (b : Bool) → nat_lt i k ≡ b → get_or (remove xs k) i d ≡ get_or xs (cond b i (suc i)) d
    by_order true is = get_or-remove_below xs k d i (grind (arith, nat_tests)) within
    by_order false is =
        get_or-remove_above xs k d i (grind (arith, nat_tests)) within ∙ ap (λ n. get_or xs n d) (omega arith)

skip_within : (k i n : ℕ) → i + 1 < n → skip k i < n
skip_within k i n below = by_order (nat_lt i k)
  where
    by_order : (b : Bool) → cond b i (suc i) < n
    by_order true = omega (arith, below)
    by_order false = omega (arith, below)

skip_rises : (k i j : ℕ) → i ≤ j → skip k i ≤ skip k j
skip_rises k i j le = by_orders (nat_lt i k) (nat_lt j k) refl refl
  where
    by_orders : (b c : Bool) → nat_lt i k ≡ b → nat_lt j k ≡ c → cond b i (suc i) ≤ cond c j (suc j)
    by_orders true true one two = le
    by_orders true false one two = omega (arith, le)
    by_orders false true one two = grind (arith, nat_tests)
    by_orders false false one two = omega (arith, le)

skip_one : (k i j : ℕ) → i ≤ j → skip k j ≤ skip k i → skip k j ≡ skip k i
skip_one k i j le ge = omega (arith, skip_rises k i j le, ge)

skip_back : (k at n : ℕ) → at < n → (at ≡ k → ⊥) → k < n → (i : ℕ) × (i + 1 < n) × (skip k i ≡ at)
skip_back k at n below apart within = by_order (nat_lt at k) refl
  where
    by_order : (b : Bool) → nat_lt at k ≡ b → (i : ℕ) × (i + 1 < n) × (skip k i ≡ at)
    by_order true is = (at, grind (arith, nat_tests), ap (λ b. cond b at (suc at)) is)
    by_order false is =
        let less : k < at = grind (arith, nat_tests) in
        let not_less : nat_lt (at - 1) k ≡ false = grind (arith, nat_tests) in
        (at - 1, omega (arith, below, less), ap (λ b. cond b (at - 1) (suc (at - 1))) not_less ∙ omega (arith, less))

skip_index : (k i : ℕ) → index_after_removal k (skip k i) ≡ Some i
skip_index k i = by_order (nat_lt i k) refl
  where
    by_order : (b : Bool) → nat_lt i k ≡ b → index_after_removal k (cond b i (suc i)) ≡ Some i
    by_order true is =
        let apart : (i == k) ≡ false = grind (arith, nat_tests) in
        let not_less : nat_lt k i ≡ false = grind (arith, nat_tests) in
        ap (λ b. cond b None (Some (cond (nat_lt k i) (i - 1) i))) apart ∙ ap (λ b. Some (cond b (i - 1) i)) not_less
    by_order false is =
        let apart : (suc i == k) ≡ false = grind (arith, nat_tests) in
        let less : nat_lt k (suc i) ≡ true = grind (arith, nat_tests) in
        let same : suc i - 1 ≡ i = omega arith in
        ap (λ b. cond b None (Some (cond (nat_lt k (suc i)) (suc i - 1) (suc i)))) apart
        ∙ ap (λ b. Some (cond b (suc i - 1) (suc i))) less ∙ ap Some same

-- ---- the reading

-- a reading is another one without the entry with a key, except for byte offsets
pub record IsRemovedRead (said tells : FileReading) (key : List ℕ) : Type 0 where
  pub k : ℕ
  pub e : EntryReading
  pub here : slice_get said.entries k ≡ Some e
  pub is : e.key.text ≡ key
  pub entries : map (moved_entry (λ at. 0)) (remove said.entries k) ≡ map (moved_entry (λ at. 0)) tells.entries
  pub abbreviations : map (moved_field (λ at. 0)) said.abbreviations ≡ map (moved_field (λ at. 0)) tells.abbreviations

pub removed_read : {d after : Document} {key : List ℕ} → EntryRemoved d key after → IsRemovedRead d.says after.says key
removed_read {d} (EntryRemoved.removed {k = k} {at = at} {e = e} entry white) =
    let move : ℕ → ℕ = moved_place (record { start = e.start; end = at; bytes = [] }) in
    let same = file_placeless move d.says in
    record {
      k = k;
      e = e;
      here = entry.here;
      is = key_is entry;
      entries =
          remove_mapped (moved_entry (λ at. 0)) d.says.entries k
          ∙ sym
          (remove_mapped (moved_entry (λ at. 0)) (map (moved_entry move) d.says.entries) k
          ∙ ap (λ (s : FileReading). remove s.entries k) same);
      abbreviations = sym (ap (λ (s : FileReading). s.abbreviations) same);
    }

-- ---- texts

-- each name that is claimed in the first list is claimed in the second
abbrev Sub : List (List ℕ) → List (List ℕ) → Type 0
Sub fewer more = (name : List ℕ) → is_claimed more name ≡ false → is_claimed fewer name ≡ false

sub_append : (fewer more rest : List (List ℕ)) → Sub fewer more → Sub (fewer ++ rest) (more ++ rest)
sub_append fewer more rest sub name free =
    let parts = or_parts (is_claimed more name) (is_claimed rest name) (sym (list_any-append (bytes_eq name) more rest) ∙ free) in
    list_any-append (bytes_eq name) fewer rest ∙ ap (λ b. b || is_claimed rest name) (sub name parts.0) ∙ parts.1

sub_before : (fewer rest : List (List ℕ)) → Sub fewer (fewer ++ rest)
sub_before fewer rest name free =
    (or_parts (is_claimed fewer name) (is_claimed rest name) (sym (list_any-append (bytes_eq name) fewer rest) ∙ free)).0

texts_sub : {definitions : Definitions} {more : List (List ℕ)} {said : List EntryReading} {ts : List EntryTexts}
    → AreTexts definitions more said ts → (fewer : List (List ℕ)) → Sub fewer more → AreTexts definitions fewer said ts
texts_sub AreTexts.none fewer sub = AreTexts.none
texts_sub {more = more} (AreTexts.next {said = s} {texts = t} fresh is can following) fewer sub =
    AreTexts.next (sub s.key.text fresh) is can
    (texts_sub following (fewer ++ claims_by s.key.text t) (sub_append fewer more (claims_by s.key.text t) sub))

texts_removed : {definitions : Definitions} {earlier : List (List ℕ)} {said : List EntryReading} {ts : List EntryTexts}
    → AreTexts definitions earlier said ts → (k : ℕ) → AreTexts definitions earlier (remove said k) (remove ts k)
texts_removed AreTexts.none zero = AreTexts.none
texts_removed AreTexts.none (suc k) = AreTexts.none
texts_removed {earlier = earlier} (AreTexts.next {said = s} {texts = t} fresh is can following) zero =
    texts_sub following earlier (sub_before earlier (claims_by s.key.text t))
texts_removed (AreTexts.next fresh is can following) (suc k) = AreTexts.next fresh is can (texts_removed following k)

-- ---- own entries

module _ (said tells : FileReading) {key : List ℕ} (r : IsRemovedRead said tells key) where
  define_alike : DefineAlike (definition_in said.abbreviations) (definition_in tells.abbreviations)
  define_alike =
      definitions_alike said.abbreviations tells.abbreviations
      (abbreviations_alike said.abbreviations tells.abbreviations r.abbreviations)

  entries_alike : AllZip (AreAlikeEntries (definition_in said.abbreviations) (definition_in tells.abbreviations))
      (remove said.entries r.k)
      tells.entries
  entries_alike = bare_entries_alike define_alike (remove said.entries r.k) tells.entries r.entries

  reading_keys : remove (map (λ (x : EntryReading). x.key.text) said.entries) r.k ≡ map (λ (x : EntryReading). x.key.text) tells.entries
  reading_keys =
      sym (remove_mapped (λ (x : EntryReading). x.key.text) said.entries r.k)
      ∙ sym (bare_keys (remove said.entries r.k))
      ∙ ap (map (λ (x : EntryReading). x.key.text)) r.entries ∙ bare_keys tells.entries

  pub removed_own : (own others : List Entry) → AreOwn said own → AreOwn tells others → AreWithout own others key
  removed_own own others first second =
      let at = own_at r.k r.e first r.here in
      record {
        index = r.k;
        entry = at.0;
        here = at.1;
        is = at.2.key ∙ r.is;
        keys =
            keys_are second ∙ sym reading_keys ∙ ap (λ keys. remove keys r.k) (sym (keys_are first));
        texts =
            sym
            (texts.all_texts_same (definition_in said.abbreviations) (definition_in tells.abbreviations) (remove said.entries r.k)
            tells.entries (remove (texts_of_entries own) r.k) (texts_of_entries others) entries_alike
            (AllZip-remove (AreTextsOf (definition_in said.abbreviations)) said.entries (texts_of_entries own) r.k
            (each_texts (texts_are first))) (each_texts (texts_are second)));
      }

-- ---- the removed entry's index

module _ {own others : List Entry} {key : List ℕ} (without : AreWithout own others key) where
  abbrev k : ℕ
  k = without.index

  within : k < length own
  within = slice_get_within own k without.entry without.here

  pub shorter : length others + 1 ≡ length own
  shorter =
      ap (λ n. n + 1) (sym (length-map others (λ (e : Entry). e.key)) ∙ ap length without.keys)
      ∙ length-remove (map (λ (e : Entry). e.key) own) k (subst (λ n. k < n) (sym (length-map own (λ (e : Entry). e.key))) within)
      ∙ length-map own (λ (e : Entry). e.key)

  pub are_moved : AreMoved own others (skip k)
  are_moved = record {
    within = λ i below. skip_within k i (length own) (omega (arith, shorter, below));
    keys = λ i below.
        sym (get_skip (map (λ (e : Entry). e.key) own) k i [] (subst (λ n. k < n) (sym (length-map own (λ (e : Entry). e.key))) within))
        ∙ ap (λ l. get_or l i []) (sym without.keys);
    texts = λ i below.
        sym (get_skip (texts_of_entries own) k i no_entry (subst (λ n. k < n) (sym (length-map own texts_of_entry)) within))
        ∙ ap (λ l. get_or l i no_entry) (sym without.texts);
  }

  last_claim : (name : List ℕ) (at i j : ℕ) → skip k i ≡ at → ClaimsAt others i name → IsLastClaim own name at → IsLastClaim others name j
      → skip k j ≡ at
  last_claim name at i j is claim first second =
      skip_one k i j (second.last i claim)
      (subst (λ n. skip k j ≤ n) (sym is) (first.last (skip k j) (claim_there are_moved j name second.here))) ∙ is

  back : (at : ℕ) → at < length own → (at ≡ k → ⊥) → (i : ℕ) × (i < length others) × (skip k i ≡ at)
  back at below apart =
      let found = skip_back k at (length own) below apart within in
      (found.0, omega (arith, found.1, shorter), found.2)

  pub names_kept : (name : List ℕ) → (by_name.get (names_of own) name ≡ Some k → ⊥)
      → by_name.get (names_of own) name ≡ option_map (skip k) (by_name.get (names_of others) name)
  names_kept = names_moved are_moved k back last_claim

option_back : (k : ℕ) (o : Option ℕ) → o ≡ option_and_then (index_after_removal k) (option_map (skip k) o)
option_back k None = refl
option_back k (Some i) = sym (skip_index k i)

-- ---- bibliographies

module _ {says tells : FileReading} {one other : Bibliography} (first : IsLoaded says one) (second : IsLoaded tells other)
    (own : List Entry) (are : AreOwn says own) {key : List ℕ} (without : AreWithout own second.accepted.own key)
    (unreferenced : IsUnreferenced own key) where
  abbrev others : List Entry
  others = second.accepted.own

  abbrev index : ℕ
  index = without.index

  not_referenced : (at : ℕ) → Contains (refs_of (graph_of own) at) index → ⊥
  not_referenced = unreferenced index without.entry without.here without.is

  one_keys : map (λ (e : Entry). e.key) one.entries ≡ map (λ (e : Entry). e.key) own
  one_keys = first.keys ∙ keys_same says first.accepted.entries are

  one_long : length one.entries ≡ length own
  one_long =
      sym (length-map one.entries (λ (e : Entry). e.key)) ∙ ap length one_keys ∙ length-map own (λ (e : Entry). e.key)

  inside : index < length one.entries
  inside = subst (λ n. index < n) (sym one_long) (slice_get_within own index without.entry without.here)

  same_texts : texts_of_entries other.entries ≡ remove (texts_of_entries one.entries) index
  same_texts =
      ext_get_or no_entry (texts_of_entries other.entries) (remove (texts_of_entries one.entries) index)
      (omega (
        arith,
        length-map other.entries texts_of_entry,
        as_long second,
        shorter without,
        one_long,
        length-map one.entries texts_of_entry,
        length-remove (texts_of_entries one.entries) index
            (subst (λ n. index < n) (sym (length-map one.entries texts_of_entry)) inside),
      ))
      (λ i below.
      sym
      (get_skip (texts_of_entries one.entries) index i no_entry
      (subst (λ n. index < n) (sym (length-map one.entries texts_of_entry)) inside)
      ∙ same_moved (are_moved without) index (names_kept without) not_referenced second.accepted.no_cycle (texts_of_entries one.entries)
      (texts_of_entries other.entries) (inherits_by says first own are) second.inherits i
      (subst (λ n. i < n) (length-map other.entries texts_of_entry ∙ as_long second) below)))

  pub bibliography_without : IsBibliographyWithout one other key
  bibliography_without =
      let entry : Entry = get_or one.entries index without.entry in
      let here : slice_get one.entries index ≡ Some entry = slice_get-get_or one.entries index without.entry inside in
      record {
        index = index;
        entry = entry;
        here = here;
        is =
            sym (key_at one.entries index entry here) ∙ ap (λ keys. get_or keys index []) one_keys
            ∙ key_at own index without.entry without.here ∙ without.is;
        keys = second.keys ∙ without.keys ∙ ap (λ keys. remove keys index) (sym one_keys);
        texts = same_texts;
        names = λ name other_name.
            let old : by_name.get one.names name ≡ by_name.get (names_of own) name =
            ap (λ names. by_name.get names name) (first.names ∙ names_same says first.accepted.entries are) in
            ap (λ names. by_name.get names name) second.names
            ∙ option_back index (by_name.get (names_of others) name)
            ∙ ap (option_and_then (index_after_removal index))
            (sym (names_kept without name (λ is. other_name (old ∙ is))) ∙ sym old);
      }

-- ---- errors

-- if no entry refers to the removed entry, an accepted file has no error without it
pub removed_accepted : (said tells : FileReading) {key : List ℕ} {error : ParseError} (r : IsRemovedRead said tells key)
    (accepted : IsAccepted said) → IsUnreferenced accepted.own key → IsFirstErrorOf tells error → ⊥
removed_accepted said tells r accepted unreferenced (IsFirstErrorOf.entry error) =
    texts_faultless (definition_in said.abbreviations) (definition_in tells.abbreviations) [] (remove said.entries r.k) tells.entries
    (entries_alike said tells r) (texts_removed (texts_are accepted.entries) r.k) error
removed_accepted said tells r accepted unreferenced (IsFirstErrorOf.cycle {own = others} {index = index} are first is) =
    let without = removed_own said tells r accepted.own others accepted.entries are in
    no_cycle_moved (are_moved without) without.index (names_kept without)
    (unreferenced without.index without.entry without.here without.is) accepted.no_cycle index first.within first.cycle
removed_accepted said tells r accepted unreferenced
    (IsFirstErrorOf.date {own = others} {values = news} {index = index} are none solves looks earlier is) =
    let without = removed_own said tells r accepted.own others accepted.entries are in
    no_bad_date (are_moved without) without.index (names_kept without)
    (unreferenced without.index without.entry without.here without.is) accepted.no_cycle accepted.dates news solves index looks
    (found_any (is_bad_date news) (refs_of (graph_of others) index) is.reference is.first)

pub unreferenced_same : (says : FileReading) {own one : List Entry} {key : List ℕ} → AreOwn says own → AreOwn says one
    → IsUnreferenced own key → IsUnreferenced one key
unreferenced_same says {own} {one} {key} first second unreferenced index entry here is at edge =
    unreferenced index (get_or own index entry)
    (slice_get-get_or own index entry
    (omega (
      arith,
      slice_get_within one index entry here,
      length-map own (λ (e : Entry). e.key),
      length-map one (λ (e : Entry). e.key),
      ap length (keys_same says first second),
    )))
    (sym (key_at own index (get_or own index entry)
    (slice_get-get_or own index entry
    (omega (
      arith,
      slice_get_within one index entry here,
      length-map own (λ (e : Entry). e.key),
      length-map one (λ (e : Entry). e.key),
      ap length (keys_same says first second),
    ))))
    ∙ ap (λ keys. get_or keys index []) (keys_same says first second) ∙ key_at one index entry here ∙ is) at
    (subst (λ g. Contains (refs_of g at) index) (graph_same says second first) edge)
