-- The first entry with a key: its index, its rank and its place.
use Rattle.std.proofs.Common.{◌≡◌, inl, inr, ℕ, zero, suc, ◌+◌, ◌-◌, ◌^◌, ◌<◌, ◌≤◌, Bool, true, false, List, [], ◌∷◌, Some, get_or, length, map, option_map, slice_get, refl, sym, ap, ◌∙◌, subst, arith}
use Rattle.std.specs.Prelude.{◌&&◌, not}
use Rattle.std.specs.FinMap.{get}
use Rattle.std.specs.List.{AllByRecursion, Contains, list_any, position_or_len}
use Rattle.std.specs.Option.{option_map_or}
use Rattle.std.specs.Str.{str_eq_ignore_ascii_case, str_to_ascii_lowercase}
use Rattle.std.specs.Prelude.{bytes_eq, cond}
use Rattle.std.proofs.lemmas.Bool.{cases_lt, false≢true}
use Rattle.std.proofs.lemmas.List.{get_or-map, length-map}
use Rattle.std.proofs.lemmas.List.Elements.{All-from_recursion, recursion_from_All}
use Rattle.std.proofs.lemmas.List.Sums.{fails_before_first, passes_at_first, position_or_len_is}
use Rattle.std.proofs.lemmas.List.Sorted.{All-permutation}
use Rattle.std.proofs.lemmas.Option.{get_or_from_slice_get, same_Some, slice_get-get_or}
use Rattle.std.proofs.lemmas.Slice.Eq.{bytes_eq-Decides}
use Rattle.bib_collections.specs.Sorted.{ByText}
use Rattle.bib_syntax.specs.Reading.{EntryReading}
use Rattle.edit_entries.specs.Documents.{Document}
use Rattle.edit_sort.specs.Ranks.{AreKeyIndices, lower_key, owner}
use Rattle.edit_sort.specs.Sorted.{AreEntriesInOrder, Item, crossref, first_with_key_of, gap_before, has_chain, has_key_of, items, place_at, entry_place, rank}
use Rattle.edit_sort.specs.Steps.{items_from, run_after}
use Rattle.edit_sort.proofs.GreatestFacts.{greatest_same}
use Rattle.edit_sort.proofs.RankFacts.{HasIndex, known_all, mapped_from, owner_below, owner_is}
use Rattle.edit_sort.proofs.StepFacts.{listed, listed_order}

-- ---- keys in any ASCII case

pub one_key_lower : (e other : EntryReading) → has_key_of e other ≡ true → lower_key e ≡ lower_key other
one_key_lower e other same = (bytes_eq-Decides (lower_key e) (lower_key other)).0 same

pub lower_one_key : (e other : EntryReading) → lower_key e ≡ lower_key other → has_key_of e other ≡ true
lower_one_key e other same = (bytes_eq-Decides (lower_key e) (lower_key other)).1 same

-- ---- the index of the first entry with a key

-- the keys of entries
abbrev pub keys_of : List EntryReading → List (List ℕ)
keys_of es = map (λ e. e.key.text) es

first_in_keys : (es : List EntryReading) (e : EntryReading)
    → first_with_key_of es e ≡ position_or_len (str_eq_ignore_ascii_case e.key.text) (keys_of es)
first_in_keys [] e = refl
first_in_keys (x ∷ es) e = ap (λ n. cond (not (has_key_of e x)) (1 + n) 0) (first_in_keys es e)

-- a change that keeps the key of each entry keeps the keys of entries
pub keys_through : (change : EntryReading → EntryReading) (es : List EntryReading) → ((e : EntryReading) → (change e).key.text ≡ e.key.text)
    → keys_of (map change es) ≡ keys_of es
keys_through change [] same = refl
keys_through change (e ∷ es) same =
    ap (λ key. key ∷ keys_of (map change es)) (same e) ∙ ap (λ keys. e.key.text ∷ keys) (keys_through change es same)

pub keys_of_items : (order : List Item) → keys_of (map (λ i. i.entry) order) ≡ map (λ i. i.entry.key.text) order
keys_of_items [] = refl
keys_of_items (i ∷ order) = ap (λ keys. i.entry.key.text ∷ keys) (keys_of_items order)

-- the first entry with a key has the same index in lists with the same keys
pub first_by_keys : (all all' : List EntryReading) (e e' : EntryReading) → keys_of all' ≡ keys_of all → e'.key.text ≡ e.key.text
    → first_with_key_of all' e' ≡ first_with_key_of all e
first_by_keys all all' e e' keys same =
    first_in_keys all' e' ∙ ap (position_or_len (str_eq_ignore_ascii_case e'.key.text)) keys
    ∙ ap (λ key. position_or_len (str_eq_ignore_ascii_case key) (keys_of all)) same ∙ sym (first_in_keys all e)

-- entries with one key have the same first entry
pub first_of_one_key : (all : List EntryReading) (e other : EntryReading) → has_key_of e other ≡ true
    → first_with_key_of all e ≡ first_with_key_of all other
first_of_one_key all e other same =
    ap (λ key. position_or_len (λ (x : EntryReading). bytes_eq key (lower_key x)) all) (one_key_lower e other same)

-- ---- owners

module _ (entries : List EntryReading) (names : ByText ℕ) (keys : AreKeyIndices entries names) where
  owner_is_first : (e : EntryReading) → HasIndex names e → owner names e ≡ first_with_key_of entries e
  owner_is_first e known =
      let k = owner names e in
      let at = owner_is entries names keys e known in
      let there = mapped_from lower_key (slice_get entries k) (lower_key e) (keys.of_key (lower_key e) k at) in
      let same : lower_key there.0 ≡ lower_key e =
      same_Some (lower_key there.0) (lower_key e)
      (sym (ap (option_map lower_key) there.1) ∙ keys.of_key (lower_key e) k at) in
      let below = owner_below entries names keys e known in
      sym
      (position_or_len_is (has_key_of e) entries k e (omega (arith, below))
      (λ j before. not_earlier k at j before (has_key_of e (get_or entries j e)) refl (omega (arith, below, before)))
      (λ within.
      ap (has_key_of e) (get_or_from_slice_get entries k there.0 e there.1) ∙ lower_one_key e there.0 (sym same)))
    where
      not_earlier : (k : ℕ) → get names (lower_key e) ≡ Some k → (j : ℕ) → j < k → (b : Bool)
          → has_key_of e (get_or entries j e) ≡ b → j < length entries → has_key_of e (get_or entries j e) ≡ false
      not_earlier k at j before false is within = is
      not_earlier k at j before true is within =
          absurd
          (keys.first (lower_key e) k j at before
          (ap (option_map lower_key) (slice_get-get_or entries j e within)
          ∙ ap Some (sym (one_key_lower e (get_or entries j e) is))))

  owners_from : (es : List EntryReading) → AllByRecursion (HasIndex names) es
      → map (owner names) es ≡ map (first_with_key_of entries) es
  owners_from [] known = refl
  owners_from (e ∷ es) known =
      ap (λ n. n ∷ map (owner names) es) (owner_is_first e known.0) ∙ ap (λ l. first_with_key_of entries e ∷ l) (owners_from es known.1)

  -- the owner of each entry is the first entry with its key
  pub owners_are_first : map (owner names) entries ≡ map (first_with_key_of entries) entries
  owners_are_first = owners_from entries (known_all entries names keys)

-- ---- ranks

chain_of_one_key : (all : List EntryReading) (n : ℕ) (e other : EntryReading) → has_key_of e other ≡ true
    → has_chain all n e ≡ has_chain all n other
chain_of_one_key all zero e other same = refl
chain_of_one_key all (suc n) e other same =
    ap
    (λ key.
    list_any
    (λ child.
    list_any (λ f. option_map_or (λ named. bytes_eq (str_to_ascii_lowercase named) key) (crossref f) false) child.fields
    && has_chain all n child) all)
    (one_key_lower e other same)

-- entries with one key have the same rank
pub rank_of_one_key : (all : List EntryReading) (e other : EntryReading) → has_key_of e other ≡ true → rank all e ≡ rank all other
rank_of_one_key all e other same =
    greatest_same (λ n. has_chain all n e) (λ n. has_chain all n other) (length all) (λ n. chain_of_one_key all n e other same)

-- ---- places

-- an item has the place of its entry
abbrev pub IsPlaced : List EntryReading → List ℕ → Item → Type 0
IsPlaced all places i = i.place ≡ entry_place all places i.entry

placed_from : (all : List EntryReading) (text places : List ℕ) (index at run : ℕ) (es : List EntryReading)
    → AllByRecursion (IsPlaced all places) (items_from all text places index at run es)
placed_from all text places index at run [] = tt
placed_from all text places index at run (e ∷ es) =
    (refl, placed_from all text places (index + 1) (e.end + 1) (run_after run (gap_before text at e)) es)

pub placed_items : (d : Document) (places : List ℕ) (order : List Item) → AreEntriesInOrder (items d places) order
    → AllByRecursion (IsPlaced d.says.entries places) order
placed_items d places order in_order =
    let all = d.says.entries in
    recursion_from_All (IsPlaced all places) order
    (All-permutation (IsPlaced all places) (listed d places) order (listed_order d places order in_order).permutation
    (All-from_recursion (IsPlaced all places) (listed d places) (placed_from all d.text places 0 0 0 all)))

-- items with the same key, in any ASCII case, have the same place
pub place_of_one_key : (all : List EntryReading) (places : List ℕ) (x y : Item) → IsPlaced all places x → IsPlaced all places y
    → has_key_of x.entry y.entry ≡ true → x.place ≡ y.place
place_of_one_key all places x y placed placed' same =
    placed ∙ ap (place_at places) (first_of_one_key all x.entry y.entry same) ∙ sym placed'

first_small : (all : List EntryReading) (e : EntryReading) (k : ℕ) → has_key_of e (get_or all k e) ≡ true → first_with_key_of all e ≤ k
first_small all e k passes =
    elim (cases_lt k (first_with_key_of all e)) [
      | inl before ↦ absurd (false≢true (sym (fails_before_first (has_key_of e) all k e before) ∙ passes))
      | inr past ↦ past
    ]

key_at : (all : List EntryReading) (order : List Item) (e : EntryReading) (i : Item) (k : ℕ)
    → keys_of all ≡ map (λ j. j.entry.key.text) order → k < length order
    → (get_or all k e).key.text ≡ (get_or order k i).entry.key.text
key_at all order e i k keys within =
    let long : length all ≡ length order =
    sym (length-map all (λ x. x.key.text)) ∙ ap length keys ∙ length-map order (λ j. j.entry.key.text) in
    sym (get_or-map (λ x. x.key.text) all k e [] (omega (arith, long, within))) ∙ ap (λ l. get_or l k []) keys
    ∙ get_or-map (λ j. j.entry.key.text) order k i [] within

-- if entries have the keys and the places of placed items (`IsPlaced`), in the same order, an entry with an item's key has its place
pub place_again : (all all' : List EntryReading) (places : List ℕ) (order : List Item) (e : EntryReading) (i : Item)
    → keys_of all' ≡ map (λ j. j.entry.key.text) order → AllByRecursion (IsPlaced all places) order
    → Contains order i → e.key.text ≡ i.entry.key.text → entry_place all' (map (λ j. j.place) order) e ≡ i.place
place_again all all' places order e i keys placed there same =
    let k = there.0 in
    let f = first_with_key_of all' e in
    let long : length all' ≡ length order =
    sym (length-map all' (λ x. x.key.text)) ∙ ap length keys ∙ length-map order (λ j. j.entry.key.text) in
    let here : (get_or all' k e).key.text ≡ e.key.text =
    key_at all' order e i k keys there.1 ∙ ap (λ j. j.entry.key.text) there.2 ∙ sym same in
    let passes : has_key_of e (get_or all' k e) ≡ true =
    lower_one_key e (get_or all' k e) (ap str_to_ascii_lowercase (sym here)) in
    let small = first_small all' e k passes in
    let within : f < length order = omega (arith, small, there.1) in
    let found = passes_at_first (has_key_of e) all' e (omega (arith, within, long)) in
    let first = get_or order f i in
    let one : has_key_of first.entry i.entry ≡ true =
    lower_one_key first.entry i.entry
    (ap str_to_ascii_lowercase (sym (key_at all' order e i f keys within)) ∙ sym (one_key_lower e (get_or all' f e) found)
    ∙ ap str_to_ascii_lowercase same) in
    let each = All-from_recursion (IsPlaced all places) order placed in
    get_or-map (λ j. j.place) order f i (2 ^ 64 - 1) within
    ∙ place_of_one_key all places first i (each f i within) (subst (IsPlaced all places) there.2 (each k i there.1)) one
