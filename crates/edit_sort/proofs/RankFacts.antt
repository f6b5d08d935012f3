-- Keys as indices: entries have a chain of references exactly if the indices of their keys have a chain of the same length.
use Rattle.std.proofs.Common.{◌≡◌, ℕ, zero, suc, ◌<◌, Bool, true, false, cond, leb, List, [], ◌∷◌, ◌++◌, Option, Some, None, get_or, is_some, length, map, option_map, slice_get, take, unwrap_or, refl, sym, ap, ap₂, ◌∙◌, subst, arith}
use Rattle.std.specs.Prelude.{◌==◌, ◌&&◌, ◌||◌, bytes_eq}
use Rattle.std.specs.FinMap.{empty, get, get-empty, get-insert, insert}
use Rattle.std.specs.List.{All, AllByRecursion, list_any}
use Rattle.std.specs.Option.{option_map_or}
use Rattle.std.specs.Str.{str_eq_ignore_ascii_case, str_to_ascii_lowercase}
use Rattle.std.proofs.lemmas.Bool.{and_right, eq-eqb, eqb-true, false≢true, leb-false, lt-leb, or_parts}
use Rattle.std.proofs.lemmas.Cmp.{nat_list_cmp_total}
use Rattle.std.proofs.lemmas.List.{get_or-take, length-take-le}
use Rattle.std.proofs.lemmas.List.Elements.{All-from_get_or, All-from_recursion, All-push, All-weaker, recursion_from_All}
use Rattle.std.proofs.lemmas.List.FromFn.{get_or-map-range_with_len}
use Rattle.std.proofs.lemmas.Map.Text.{is_eq-slice_cmp}
use Rattle.std.proofs.lemmas.Option.{get_or_from_slice_get, none-some, same_Some, slice_get_within}
use Rattle.std.proofs.lemmas.Slice.Eq.{bytes_eq-Decides}
use Rattle.bib_collections.specs.Graph.{Graph, IsInRange, refs_of}
use Rattle.bib_collections.specs.Names.{AreIndicesBelow}
use Rattle.bib_collections.specs.Sorted.{ByText, by_bytes}
use Rattle.bib_syntax.specs.Reading.{FieldReading, EntryReading}
use Rattle.edit_sort.specs.Ranks.{AreChildren, AreFirstIndices, AreIndicesOf, AreKeyIndices, HaveIndices, has_walk, longest, longest_chains, lower_key, names_index, owner, points_to}
use Rattle.edit_sort.specs.Sorted.{crossref, has_chain, names_key, rank, refers_to}
use Rattle.edit_sort.proofs.GreatestFacts.{greatest_same}
use Rattle.edit_sort.proofs.SetFacts.{any_same, any_where, same_tests}

-- the key of an entry points to an index
abbrev pub HasIndex : ByText ℕ → EntryReading → Type 0
HasIndex names e = is_some (get names (lower_key e)) ≡ true

some_is : {A : Type 0} (o : Option A) (d : A) → is_some o ≡ true → o ≡ Some (unwrap_or o d)
some_is None d some = absurd (false≢true some)
some_is (Some x) d some = refl

pub mapped_from : {A B : Type 0} (f : A → B) (o : Option A) (y : B) → option_map f o ≡ Some y → (x : A) × (o ≡ Some x)
mapped_from f None y is = absurd (let clash : None ≡ Some y = is in cc)
mapped_from f (Some x) y is = (x, refl)

index_below : (all : List EntryReading) (key : List ℕ) (k : ℕ) → option_map lower_key (slice_get all k) ≡ Some key → k < length all
index_below all key k is = let found = mapped_from lower_key (slice_get all k) key is in slice_get_within all k found.0 found.1

-- each key points to the index of an entry
pub indices_below : (all : List EntryReading) (names : ByText ℕ) → AreIndicesOf all names → AreIndicesBelow (length all) names
indices_below all names of_key key k is = index_below all key k (of_key key k is)

module _ (entries : List EntryReading) (names : ByText ℕ) (keys : AreKeyIndices entries names) where
  pub owner_is : (e : EntryReading) → HasIndex names e → get names (lower_key e) ≡ Some (owner names e)
  owner_is e known = some_is (get names (lower_key e)) 0 known

  pub owner_below : (e : EntryReading) → HasIndex names e → owner names e < length entries
  owner_below e known = index_below entries (lower_key e) (owner names e) (keys.of_key (lower_key e) (owner names e) (owner_is e known))

  pub known_all : AllByRecursion (HasIndex names) entries
  known_all = recursion_from_All (HasIndex names) entries keys.each

  -- ---- a key in any ASCII case

  pointed : (index : ℕ) (o : Option ℕ) → option_map_or (λ k. k == index) o false ≡ true → o ≡ Some index
  pointed index None is = absurd (false≢true is)
  pointed index (Some k) is = ap Some (eqb-true k index is)

  same_key : (e : EntryReading) → HasIndex names e → (key : List ℕ)
      → str_eq_ignore_ascii_case key e.key.text ≡ points_to names (owner names e) key
  same_key e known key =
      same_tests (str_eq_ignore_ascii_case key e.key.text) (points_to names (owner names e) key)
      (λ same.
      let is = (bytes_eq-Decides (str_to_ascii_lowercase key) (lower_key e)).0 same in
      ap (λ k. option_map_or (λ n. n == owner names e) (get names k) false) is
      ∙ ap (λ o. option_map_or (λ n. n == owner names e) o false) (owner_is e known)
      ∙ eq-eqb (owner names e) (owner names e) refl)
      (λ points.
      let at = pointed (owner names e) (get names (str_to_ascii_lowercase key)) points in
      let first = keys.of_key (str_to_ascii_lowercase key) (owner names e) at in
      let second = keys.of_key (lower_key e) (owner names e) (owner_is e known) in
      (bytes_eq-Decides (str_to_ascii_lowercase key) (lower_key e)).1
      (same_Some (str_to_ascii_lowercase key) (lower_key e) (sym first ∙ second)))

  names_same : (e : EntryReading) → HasIndex names e → (f : FieldReading) → names_key e.key.text f ≡ names_index names (owner names e) f
  names_same e known f = by_key (crossref f)
    where
      by_key : (o : Option (List ℕ))
          → option_map_or (λ named. str_eq_ignore_ascii_case named e.key.text) o false
          ≡ option_map_or (points_to names (owner names e)) o false
      by_key None = refl
      by_key (Some key) = same_key e known key

  refers_same : (e child : EntryReading) → HasIndex names e
      → refers_to e.key.text child ≡ list_any (names_index names (owner names e)) child.fields
  refers_same e child known = any_same (names_key e.key.text) (names_index names (owner names e)) child.fields (names_same e known)

  -- ---- chains

  module _ (graph : Graph) (children : AreChildren names entries graph) where
    chain_is_walk : (n : ℕ) (e : EntryReading) → HasIndex names e → has_chain entries n e ≡ has_walk graph n (owner names e)
    chain_is_walk zero e known = refl
    chain_is_walk (suc n) e known =
        any_where (HasIndex names) (λ child. refers_to e.key.text child && has_chain entries n child)
        (λ child. list_any (names_index names (owner names e)) child.fields && has_walk graph n (owner names child)) entries
        (λ child there. ap₂ (λ a b. a && b) (refers_same e child known) (chain_is_walk n child there)) known_all
        ∙ sym (children (has_walk graph n) (owner names e))

    rank_is : (e : EntryReading) → HasIndex names e → rank entries e ≡ longest graph (length entries) (owner names e)
    rank_is e known =
        greatest_same (λ n. has_chain entries n e) (λ n. has_walk graph n (owner names e)) (length entries)
        (λ n. chain_is_walk n e known)

    -- if the keys of entries point to indices, the lengths of the longest chains at their owners are their ranks
    pub ranks_are : (lengths : List ℕ) (es : List EntryReading) → length graph ≡ length entries → lengths ≡ longest_chains graph
        → AllByRecursion (HasIndex names) es
        → map (λ r. get_or lengths r 0) (map (owner names) es) ≡ map (rank entries) es
    ranks_are lengths [] size is known = refl
    ranks_are lengths (e ∷ es) size is known =
        let within : owner names e < length graph = omega (arith, owner_below e known.0, size) in
        let here : get_or lengths (owner names e) 0 ≡ rank entries e =
        ap (λ l. get_or l (owner names e) 0) is
        ∙ get_or-map-range_with_len (longest graph (length graph)) 0 (length graph) (owner names e) (owner names e) 0 within
        (omega arith)
        ∙ ap (λ n. longest graph n (owner names e)) size ∙ sym (rank_is e known.0) in
        ap (λ n. n ∷ map (λ r. get_or lengths r 0) (map (owner names) es)) here
        ∙ ap (λ l. rank entries e ∷ l) (ranks_are lengths es size is known.1)

    -- ---- references are indices

    none_above : (n : ℕ) (es : List EntryReading) (index : ℕ) → ((e : EntryReading) → HasIndex names e → owner names e < n)
        → AllByRecursion (HasIndex names) es
        → list_any (λ e. list_any (names_index names index) e.fields && leb n (owner names e)) es ≡ false
    none_above n [] index below known = refl
    none_above n (e ∷ es) index below known =
        ap
        (λ b. b || list_any (λ x. list_any (names_index names index) x.fields && leb n (owner names x)) es)
        (and_right (list_any (names_index names index) e.fields) (leb n (owner names e)) (lt-leb n (owner names e) (below e known.0)))
        ∙ none_above n es index below known.1

    row_below : (n : ℕ) (row : List ℕ) → list_any (leb n) row ≡ false → AllByRecursion (λ r. r < n) row
    row_below n [] none = tt
    row_below n (r ∷ row) none =
        let parts = or_parts (leb n r) (list_any (leb n) row) none in (leb-false n r parts.0, row_below n row parts.1)

    pub children_in_range : length graph ≡ length entries → IsInRange graph
    children_in_range size =
        All-from_get_or (λ row. All (λ r. r < length graph) row) graph []
        (λ k within. subst (λ n. All (λ r. r < n) (refs_of graph k)) (sym size)
        (All-from_recursion (λ r. r < length entries) (refs_of graph k)
        (row_below (length entries) (refs_of graph k)
        (children (leb (length entries)) k ∙ none_above (length entries) entries k owner_below known_all))))

-- if the keys of entries point to indices, their owners are less than the number of all entries
pub owners_below : (entries : List EntryReading) (names : ByText ℕ) (keys : AreKeyIndices entries names) (n : ℕ) (es : List EntryReading)
    → length entries ≡ n → AllByRecursion (HasIndex names) es → AllByRecursion (λ r. r < n) (map (owner names) es)
owners_below entries names keys n [] size known = tt
owners_below entries names keys n (e ∷ es) size known =
    (omega (arith, owner_below entries names keys e known.0, size), owners_below entries names keys n es size known.1)

-- ---- one more entry

indices_tied : (all : List EntryReading) (e : EntryReading) (index k : ℕ) (key : List ℕ) → slice_get all index ≡ Some e
    → key ≡ lower_key e → index ≡ k → option_map lower_key (slice_get all k) ≡ Some key
indices_tied all e index k key here same at =
    ap (λ n. option_map lower_key (slice_get all n)) (sym at) ∙ ap (option_map lower_key) here ∙ ap Some (sym same)

-- in an empty map, each key points to the index of an entry with this key, since none points to an index
pub indices_none : (all : List EntryReading) (names : ByText ℕ) → names ≡ empty → AreIndicesOf all names
indices_none all names is key k at =
    absurd (none-some k (sym (get-empty {X = ℕ} by_bytes key) ∙ ap (λ m. get m key) (sym is) ∙ at))

pub first_none : (all : List EntryReading) (names : ByText ℕ) → names ≡ empty → AreFirstIndices all names
first_none all names is key k j at before there =
    none-some k (sym (get-empty {X = ℕ} by_bytes key) ∙ ap (λ m. get m key) (sym is) ∙ at)

get_more : (names new : ByText ℕ) (key : List ℕ) (index : ℕ) (q : List ℕ) → new ≡ insert names key index
    → get new q ≡ cond (bytes_eq q key) (Some index) (get names q)
get_more names new key index q is =
    ap (λ m. get m q) is ∙ get-insert nat_list_cmp_total names key index q
    ∙ ap (λ b. cond b (Some index) (get names q)) (is_eq-slice_cmp q key)

-- each key points to the index of an entry with this key, after one more entry
indices_more : (all : List EntryReading) (names new : ByText ℕ) (e : EntryReading) (index : ℕ) → slice_get all index ≡ Some e
    → new ≡ insert names (lower_key e) index → AreIndicesOf all names → AreIndicesOf all new
indices_more all names new e index here is of_key key k at =
    by_tie (bytes_eq key (lower_key e)) refl (sym (get_more names new (lower_key e) index key is) ∙ at)
  where
    by_tie : (b : Bool) → bytes_eq key (lower_key e) ≡ b → cond b (Some index) (get names key) ≡ Some k
        → option_map lower_key (slice_get all k) ≡ Some key
    by_tie true tied found =
        indices_tied all e index k key here ((bytes_eq-Decides key (lower_key e)).0 tied) (same_Some index k found)
    by_tie false tied found = of_key key k found

some_tied : (b : Bool) (index : ℕ) (o : Option ℕ) → is_some o ≡ true → is_some (cond b (Some index) o) ≡ true
some_tied true index o some = refl
some_tied false index o some = some

-- the keys of the entries so far point to an index, after one more entry
have_more : (names new : ByText ℕ) (es : List EntryReading) (e : EntryReading) (index : ℕ)
    → new ≡ insert names (lower_key e) index → HaveIndices names es → HaveIndices new (es ++ e ∷ [])
have_more names new es e index is known =
    All-push (HasIndex new) es e
    (All-weaker (HasIndex names) (HasIndex new)
    (λ x there.
    ap is_some (get_more names new (lower_key e) index (lower_key x) is)
    ∙ some_tied (bytes_eq (lower_key x) (lower_key e)) index (get names (lower_key x)) there) es known)
    (ap is_some
    (get_more names new (lower_key e) index (lower_key e) is
    ∙ ap (λ b. cond b (Some index) (get names (lower_key e))) ((bytes_eq-Decides (lower_key e) (lower_key e)).1 refl)))

-- if no key of the entries before an index is that of its entry, each key still points to the first entry with it
first_more : (all : List EntryReading) (names new : ByText ℕ) (e : EntryReading) (index : ℕ) → index < length all
    → is_some (get names (lower_key e)) ≡ false → new ≡ insert names (lower_key e) index → HaveIndices names (take index all)
    → AreFirstIndices all names → AreFirstIndices all new
first_more all names new e index long missing is known first key k j at before there =
    by_tie (bytes_eq key (lower_key e)) refl (sym (get_more names new (lower_key e) index key is) ∙ at)
  where
    by_tie : (b : Bool) → bytes_eq key (lower_key e) ≡ b → cond b (Some index) (get names key) ≡ Some k → ⊥
    by_tie false tied found = first key k j found before there
    by_tie true tied found =
        let last : index ≡ k = same_Some index k found in
        let x = mapped_from lower_key (slice_get all j) key there in
        let same : lower_key x.0 ≡ lower_key e =
        same_Some (lower_key x.0) key (sym (ap (option_map lower_key) x.1) ∙ there) ∙ (bytes_eq-Decides key (lower_key e)).0 tied in
        let early : j < index = omega (arith, before, last) in
        let within : j < length (take index all) =
        omega (arith, early, length-take-le index all (omega (arith, long))) in
        let here : get_or (take index all) j x.0 ≡ x.0 =
        get_or-take index all j x.0 early ∙ get_or_from_slice_get all j x.0 x.0 x.1 in
        let some : is_some (get names (lower_key x.0)) ≡ true = subst (HasIndex names) here (known j x.0 within) in
        false≢true (sym missing ∙ ap (λ q. is_some (get names q)) (sym same) ∙ some)

-- the keys of entries so far point to the index of the first entry of `all` with that key
pub record AreFirstKeys (all : List EntryReading) (names : ByText ℕ) (es : List EntryReading) : Type 0 where
  pub of_key : AreIndicesOf all names
  pub first : AreFirstIndices all names
  pub each : HaveIndices names es

pub keys_more : (all : List EntryReading) (names new : ByText ℕ) (e : EntryReading) (index : ℕ) → slice_get all index ≡ Some e
    → new ≡ cond (is_some (get names (lower_key e))) names (insert names (lower_key e) index)
    → AreFirstKeys all names (take index all) → AreFirstKeys all new (take index all ++ e ∷ [])
keys_more all names new e index here is keys = by_key (is_some (get names (lower_key e))) refl is
  where
    by_key : (b : Bool) → is_some (get names (lower_key e)) ≡ b → new ≡ cond b names (insert names (lower_key e) index)
        → AreFirstKeys all new (take index all ++ e ∷ [])
    by_key true has is' =
        subst (λ m. AreFirstKeys all m (take index all ++ e ∷ [])) (sym is')
        (record { of_key = keys.of_key; first = keys.first; each = All-push (HasIndex names) (take index all) e keys.each has })
    by_key false has is' = record {
      of_key = indices_more all names new e index here is' keys.of_key;
      first = first_more all names new e index (slice_get_within all index e here) has is' keys.each keys.first;
      each = have_more names new (take index all) e index is' keys.each;
    }
