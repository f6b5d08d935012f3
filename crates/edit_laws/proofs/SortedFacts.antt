-- The entries of a sorted file.
use Rattle.std.proofs.Common.{◌≡◌, ◌⊎◌, ℕ, zero, suc, ◌+◌, ◌<◌, ◌≤◌, List, [], ◌∷◌, get_or, length, map, refl, sym, ap, ◌∙◌, subst, arith, inl, inr, Some, None, Option, option_map, option_and_then}
use Rattle.std.specs.Prelude.{slice_get}
use Rattle.std.specs.FinMap as by_name
use Rattle.std.specs.List.{Contains}
use Rattle.std.specs.List.Sorted.{IsPermutation, SwapsInRange, apply_swaps}
use Rattle.std.proofs.lemmas.List.{ext_get_or, length-map}
use Rattle.std.proofs.lemmas.List.Sorted.{IsPermutation-map}
use Rattle.std.proofs.lemmas.Option.{slice_get-get_or, slice_get_within}
use Rattle.std.proofs.lemmas.Bool.{cases_lt}
use Rattle.bib_collections.proofs.Walks.{below_from_edge}
use Rattle.bib_collections.specs.Graph.{refs_of}
use Rattle.bib_entry.specs.declared.entry.Entry.{Entry}
use Rattle.bib_file_entries.specs.Bibliography.{Bibliography, entry_of}
use Rattle.bib_file_entries.specs.Loaded.{definition_in, is_claimed}
use Rattle.bib_inheritance.proofs.RangeFacts.{graph_in_range}
use Rattle.bib_inheritance.specs.EntryTexts.{fields_of, no_entry}
use Rattle.bib_inheritance.specs.References.{references}
use Rattle.bib_inheritance.specs.Resolving.{at_index, texts_of_entries, texts_of_entry}
use Rattle.bib_syntax.specs.Reading.{EntryReading, FileReading}
use Rattle.bib_text.proofs.ListFacts.{some_same, element_at}
use Rattle.biblatex.proofs.ResolvedFacts.{all_texts_same, keys_same, names_below, names_same}
use Rattle.biblatex.specs.Places.{ClaimsAt, IsLastClaim}
use Rattle.biblatex.specs.Resolved.{AreOwn, IsLoaded, graph_of, names_of}
use Rattle.edit_entries.specs.Documents.{Document}
use Rattle.edit_entries.specs.Edits.{moved_entry, moved_field}
use Rattle.bib_collections.proofs.Roots.{entry_below}
use Rattle.edit_laws.proofs.AlikeFacts.{DefineAlike, definitions_alike}
use Rattle.edit_laws.proofs.LiftFacts.{as_long, at_texts, inherits_by, key_at}
use Rattle.edit_laws.proofs.MovedFacts.{AreMoved, claim_there, names_moved, same_moved}
use Rattle.edit_laws.proofs.ReadAlikeFacts.{AreAlikeEntries, abbreviations_alike}
use Rattle.edit_laws.proofs.ReplacedFacts.{bare_entries_alike}
use Rattle.edit_laws.proofs.SwapFacts.{after_swaps, after_within, before_after, before_swaps, before_within, get_swaps, length_swaps}
use Rattle.edit_laws.proofs.TextFacts.{claims_are, claims_by, keys_are, own_at, texts_of_entry_are, texts_same, zip_at}
use Rattle.edit_laws.specs.SameEntries.{AreClaimsDistinct, HaveSameEntries, described}
use Rattle.edit_sort.proofs.StepFacts.{items_are}
use Rattle.edit_sort.specs.Sorted.{IsReadSorted, Item, items}
use Rattle.edit_sort.specs.Steps.{items_from, run_after}
use Rattle.edit_sort.specs.Sorted.{gap_before}

-- ---- the reading

-- a reading has the entries of another one in another order, except for byte offsets
pub record IsPermutedRead (said tells : FileReading) : Type 0 where
  pub sorted : List EntryReading
  pub permutation : IsPermutation said.entries sorted
  pub entries : map (moved_entry (λ at. 0)) sorted ≡ map (moved_entry (λ at. 0)) tells.entries
  pub abbreviations : map (moved_field (λ at. 0)) said.abbreviations ≡ map (moved_field (λ at. 0)) tells.abbreviations

entries_are : (all : List EntryReading) (text places : List ℕ) (index at run : ℕ) (es : List EntryReading)
    → map (λ (i : Item). i.entry) (items_from all text places index at run es) ≡ es
entries_are all text places index at run [] = refl
entries_are all text places index at run (e ∷ es) =
    ap (λ l. e ∷ l) (entries_are all text places (index + 1) (e.end + 1) (run_after run (gap_before text at e)) es)

pub sorted_read : (d : Document) (places new : List ℕ) (s : IsReadSorted d places new) → IsPermutedRead d.says s.tells
sorted_read d places new s = record {
  sorted = map (λ (i : Item). i.entry) s.order;
  permutation =
      subst (λ es. IsPermutation es (map (λ (i : Item). i.entry) s.order))
      (ap (map (λ (i : Item). i.entry)) (items_are d places) ∙ entries_are d.says.entries d.text places 0 0 0 d.says.entries)
      (IsPermutation-map (λ (i : Item). i.entry) (items d places) s.order s.in_order.permutation);
  entries = sym (ap (λ (r : FileReading). r.entries) s.alike);
  abbreviations = sym (ap (λ (r : FileReading). r.abbreviations) s.alike);
}

described_at : (xs : List Entry) (i : ℕ) (x : Entry) → slice_get xs i ≡ Some x → get_or (map described xs) i ([], no_entry) ≡ described x
described_at [] i x here = cc
described_at (e ∷ xs) zero x here = let same : e ≡ x = cc in ap described same
described_at (e ∷ xs) (suc i) x here = described_at xs i x here

-- if each entry of `ys` has the key, type and texts of the entry of `xs` that the swaps move to its index, these of `ys` are a
-- permutation of those of `xs`
permuted_lists : (moves : List (ℕ × ℕ)) (xs ys : List Entry) → SwapsInRange (length xs) moves → length ys ≡ length xs
    → ((i : ℕ) (x y : Entry) → slice_get xs (before_swaps moves i) ≡ Some x → slice_get ys i ≡ Some y → described x ≡ described y)
    → IsPermutation (map described xs) (map described ys)
permuted_lists moves xs ys below long same =
    let in_range : SwapsInRange (length (map described xs)) moves =
    subst (λ n. SwapsInRange n moves) (sym (length-map xs described)) below in
    record {
      moves = moves;
      below = in_range;
      is =
          ext_get_or ([], no_entry) (map described ys) (apply_swaps (map described xs) moves)
          (length-map ys described ∙ long ∙ sym (length-map xs described) ∙ sym (length_swaps (map described xs) moves))
          (λ i less.
          let inside : i < length ys = subst (λ n. i < n) (length-map ys described) less in
          let x =
          element_at xs (before_swaps moves i) (before_within moves i (length xs) below (subst (λ n. i < n) long inside)) in
          let y = element_at ys i inside in
          described_at ys i y.0 y.1 ∙ sym (same i x.0 y.0 x.1 y.1) ∙ sym (described_at xs (before_swaps moves i) x.0 x.1)
          ∙ sym (get_swaps (map described xs) moves i ([], no_entry) in_range));
    }

-- ---- the own entries

pub no_raw : EntryReading
no_raw = record {
  key = record { text = []; start = 0; end = 0 };
  kind = record { text = []; start = 0; end = 0 };
  fields = [];
  start = 0;
  end = 0;
}

module _ (said tells : FileReading) (r : IsPermutedRead said tells) (own others : List Entry) (first : AreOwn said own)
    (second : AreOwn tells others) where
  abbrev moves : List (ℕ × ℕ)
  moves = r.permutation.moves

  abbrev move : ℕ → ℕ
  move = before_swaps moves

  own_count : length own ≡ length said.entries
  own_count =
      sym (length-map own (λ (e : Entry). e.key)) ∙ ap length (keys_are first)
      ∙ length-map said.entries (λ (s : EntryReading). s.key.text)

  other_count : length others ≡ length tells.entries
  other_count =
      sym (length-map others (λ (e : Entry). e.key)) ∙ ap length (keys_are second)
      ∙ length-map tells.entries (λ (s : EntryReading). s.key.text)

  sorted_count : length r.sorted ≡ length said.entries
  sorted_count = ap length r.permutation.is ∙ length_swaps said.entries moves

  tells_count : length tells.entries ≡ length r.sorted
  tells_count =
      sym (length-map tells.entries (moved_entry (λ at. 0))) ∙ ap length (sym r.entries)
      ∙ length-map r.sorted (moved_entry (λ at. 0))

  pub same_count : length others ≡ length own
  same_count = other_count ∙ tells_count ∙ sorted_count ∙ sym own_count

  define_alike : DefineAlike (definition_in said.abbreviations) (definition_in tells.abbreviations)
  define_alike =
      definitions_alike said.abbreviations tells.abbreviations
      (abbreviations_alike said.abbreviations tells.abbreviations r.abbreviations)

  -- the new own entry at an index has the key and texts of the old one at its old index
  pub entry_moved : (i : ℕ) → i < length others → (x : Entry) × (y : Entry) × (slice_get own (move i) ≡ Some x)
      × (slice_get others i ≡ Some y) × (y.key ≡ x.key) × (texts_of_entry x ≡ texts_of_entry y)
  entry_moved i below =
      let inside : i < length said.entries = omega (arith, below, same_count, own_count) in
      let at : move i < length said.entries = before_within moves i (length said.entries) r.permutation.below inside in
      let raw : EntryReading = get_or said.entries (move i) no_raw in
      let old_here : slice_get said.entries (move i) ≡ Some raw = slice_get-get_or said.entries (move i) no_raw at in
      let sorted_here : slice_get r.sorted i ≡ Some raw =
      slice_get-get_or r.sorted i no_raw (subst (λ n. i < n) (sym sorted_count) inside)
      ∙ ap Some
      (ap (λ l. get_or l i no_raw) r.permutation.is ∙ get_swaps said.entries moves i no_raw r.permutation.below) in
      let new =
      zip_at (AreAlikeEntries (definition_in said.abbreviations) (definition_in tells.abbreviations)) r.sorted tells.entries i raw
      (bare_entries_alike define_alike r.sorted tells.entries r.entries) sorted_here in
      let x = own_at (move i) raw first old_here in
      let y = own_at i new.0 second new.1 in (
        x.0,
        y.0,
        x.1,
        y.1,
        y.2.key ∙ sym new.2.key ∙ sym x.2.key,
        texts_same (definition_in said.abbreviations) (definition_in tells.abbreviations) (texts_of_entry x.0) (texts_of_entry y.0) new.2
            (texts_of_entry_are x.0 x.2) (texts_of_entry_are y.0 y.2),
      )

  pub permuted_own : IsPermutation (map described own) (map described others)
  permuted_own =
      permuted_lists moves own others (subst (λ n. SwapsInRange n moves) (sym own_count) r.permutation.below) same_count
      (λ i x y here there.
      let at = entry_moved i (slice_get_within others i y there) in
      let old : at.0 ≡ x = some_same (sym at.2 ∙ here) in
      let new : at.1 ≡ y = some_same (sym at.3 ∙ there) in
      ap described (sym old) ∙ ap (λ key. (key, texts_of_entry at.0)) (sym at.4) ∙ ap (λ t. (at.1.key, t)) at.5 ∙ ap described new)

  pub permuted_moved : AreMoved own others move
  permuted_moved = record {
    within = λ i below.
        subst (λ n. move i < n) (sym own_count)
        (before_within moves i (length said.entries) r.permutation.below (omega (arith, below, same_count, own_count)));
    keys = λ i below.
        let at = entry_moved i below in
        key_at own (move i) at.0 at.2 ∙ sym at.4 ∙ sym (key_at others i at.1 at.3);
    texts = λ i below.
        let at = entry_moved i below in
        at_texts own (move i) at.0 at.2 ∙ at.5 ∙ sym (at_texts others i at.1 at.3);
  }

  back : (at : ℕ) → at < length own → (at ≡ length own → ⊥) → (i : ℕ) × (i < length others) × (move i ≡ at)
  back at below apart = (
    after_swaps moves at,
    subst (λ n. after_swaps moves at < n) (sym (same_count ∙ own_count))
        (after_within moves at (length said.entries) r.permutation.below (subst (λ n. at < n) own_count below)),
    before_after moves at,
  )

  module _ (distinct : AreClaimsDistinct own) where
    last_claim : (name : List ℕ) (at i j : ℕ) → move i ≡ at → ClaimsAt others i name → IsLastClaim own name at
        → IsLastClaim others name j → move j ≡ at
    last_claim name at i j is claim one_last other_last =
        distinct name (move j) at (claim_there permuted_moved j name other_last.here) one_last.here

    no_index : (name : List ℕ) → by_name.get (names_of own) name ≡ Some (length own) → ⊥
    no_index name is = omega (arith, names_below own name (length own) is)

    pub names_permuted : (name : List ℕ) → (by_name.get (names_of own) name ≡ Some (length own) → ⊥)
        → by_name.get (names_of own) name ≡ option_map move (by_name.get (names_of others) name)
    names_permuted = names_moved permuted_moved (length own) back last_claim

    pub unreferenced : (at : ℕ) → Contains (refs_of (graph_of own) at) (length own) → ⊥
    unreferenced at edge =
        omega (
          arith,
          length-map own (λ (e : Entry). references (names_of own) (fields_of e.fields)),
          below_from_edge (graph_of own) at (length own) (graph_in_range (names_of own) own (names_below own))
              (entry_below (graph_of own) (length own) at edge) edge,
        )

-- ---- bibliographies

module _ {says tells : FileReading} {one other : Bibliography} (first : IsLoaded says one) (second : IsLoaded tells other)
    (own : List Entry) (are : AreOwn says own) (r : IsPermutedRead says tells) (distinct : AreClaimsDistinct own) where
  abbrev news : List Entry
  news = second.accepted.own

  abbrev old_index : ℕ → ℕ
  old_index = before_swaps r.permutation.moves

  one_keys : map (λ (e : Entry). e.key) one.entries ≡ map (λ (e : Entry). e.key) own
  one_keys = first.keys ∙ keys_same says first.accepted.entries are

  one_long : length one.entries ≡ length own
  one_long =
      sym (length-map one.entries (λ (e : Entry). e.key)) ∙ ap length one_keys ∙ length-map own (λ (e : Entry). e.key)

  long : length other.entries ≡ length one.entries
  long = as_long second ∙ same_count says tells r own news are second.accepted.entries ∙ sym one_long

  -- the entries of both bibliographies at corresponding indices have the same key and texts
  described_same : (i : ℕ) (x y : Entry) → slice_get one.entries (old_index i) ≡ Some x → slice_get other.entries i ≡ Some y
      → described x ≡ described y
  described_same i x y here there =
      let below : i < length news =
      subst (λ n. i < n) (as_long second) (slice_get_within other.entries i y there) in
      let keys : x.key ≡ y.key =
      sym (key_at one.entries (old_index i) x here) ∙ ap (λ l. get_or l (old_index i) []) one_keys
      ∙ (permuted_moved says tells r own news are second.accepted.entries).keys i below
      ∙ ap (λ l. get_or l i []) (sym second.keys) ∙ key_at other.entries i y there in
      let texts : texts_of_entry x ≡ texts_of_entry y =
      sym (at_texts one.entries (old_index i) x here)
      ∙ same_moved (permuted_moved says tells r own news are second.accepted.entries) (length own)
      (names_permuted says tells r own news are second.accepted.entries distinct)
      (unreferenced says tells r own news are second.accepted.entries distinct) second.accepted.no_cycle (texts_of_entries one.entries)
      (texts_of_entries other.entries) (inherits_by says first own are) second.inherits i below
      ∙ at_texts other.entries i y there in
      ap (λ key. (key, texts_of_entry x)) keys ∙ ap (λ t. (y.key, t)) texts

  -- the old index of an index is in range
  old_within : (i : ℕ) → i < length other.entries → old_index i < length one.entries
  old_within i below =
      subst (λ n. old_index i < n) (sym one_long)
      ((permuted_moved says tells r own news are second.accepted.entries).within i (subst (λ n. i < n) (as_long second) below))

  old_name : (name : List ℕ) → by_name.get one.names name ≡ option_map old_index (by_name.get other.names name)
  old_name name =
      ap (λ names. by_name.get names name) (first.names ∙ names_same says first.accepted.entries are)
      ∙ names_permuted says tells r own news are second.accepted.entries distinct name
      (λ is. omega (arith, names_below own name (length own) is))
      ∙ ap (λ names. option_map old_index (by_name.get names name)) (sym second.names)

  pub same_entries : HaveSameEntries one other
  same_entries = record {
    entries =
        permuted_lists r.permutation.moves one.entries other.entries
        (subst (λ n. SwapsInRange n r.permutation.moves)
        (sym (own_count says tells r own news are second.accepted.entries) ∙ sym one_long) r.permutation.below)
        long described_same;
    names = λ name. by_index name (by_name.get other.names name) refl;
  }
    where
      by_index : (name : List ℕ) (o : Option ℕ) → by_name.get other.names name ≡ o
          → option_map described (entry_of one name) ≡ option_map described (entry_of other name)
      by_index name None is =
          ap (λ p. option_map described (option_and_then (λ index. slice_get one.entries index) p)) (old_name name ∙ ap
          (option_map old_index) is)
          ∙ sym (ap (λ p. option_map described (option_and_then (λ index. slice_get other.entries index) p)) is)
      by_index name (Some i) is =
          let inside : i < length other.entries =
          subst (λ n. i < n) (sym (as_long second))
          (names_below news name i (ap (λ names. by_name.get names name) (sym second.names) ∙ is)) in
          let x = element_at one.entries (old_index i) (old_within i inside) in
          let y = element_at other.entries i inside in
          ap (λ p. option_map described (option_and_then (λ index. slice_get one.entries index) p)) (old_name name ∙ ap
          (option_map old_index) is)
          ∙ ap (option_map described) x.1 ∙ ap Some (described_same i x.0 y.0 x.1 y.1) ∙ sym (ap (option_map described) y.1)
          ∙ sym (ap (λ p. option_map described (option_and_then (λ index. slice_get other.entries index) p)) is)

-- ---- two readings of one file

-- if no two own entries claim one name, no two of any other own entries of the same file do
pub distinct_same : (says : FileReading) {own one : List Entry} → AreOwn says own → AreOwn says one → AreClaimsDistinct own
    → AreClaimsDistinct one
distinct_same says {own} {one} first second distinct name i j at also =
    distinct name i j (moved i at) (moved j also)
  where
    moved : (k : ℕ) → ClaimsAt one k name → ClaimsAt own k name
    moved k c =
        let within : k < length own =
        omega (
          arith,
          slice_get_within one k c.entry c.there,
          length-map own (λ (e : Entry). e.key),
          length-map one (λ (e : Entry). e.key),
          ap length (keys_same says first second),
        ) in
        let x = element_at own k within in
        record {
          entry = x.0;
          there = x.1;
          claims =
              ap (λ l. is_claimed l name)
              (claims_are x.0
              ∙ ap (λ key. claims_by key (texts_of_entry x.0))
              (sym (key_at own k x.0 x.1) ∙ ap (λ l. get_or l k []) (keys_same says first second) ∙ key_at one k c.entry c.there)
              ∙ ap (claims_by c.entry.key)
              (sym (at_texts own k x.0 x.1) ∙ ap (λ l. at_index l k) (all_texts_same says first second) ∙ at_texts one k c.entry c.there)
              ∙ sym (claims_are c.entry))
              ∙ c.claims;
        }
