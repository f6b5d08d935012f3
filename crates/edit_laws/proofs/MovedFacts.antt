-- Files with the same entries at other indices: each index of the new file has the entry of an old one.
use Rattle.std.proofs.Common.{◌≡◌, ◌⊎◌, ℕ, zero, suc, ◌<◌, ◌≤◌, List, [], ◌∷◌, Bool, true, get_or, length, map, refl, sym, ap, ◌∙◌, subst, arith, inl, inr, Some, None, Option, option_map, filter_map}
use Rattle.std.specs.Prelude.{slice_get, ◌&&◌, ◌||◌, MatchOption}
use Rattle.std.specs.FinMap as by_name
use Rattle.std.specs.List.{Contains, cons_option, list_any}
use Rattle.std.proofs.lemmas.Bool.{both_ways, cases_lt}
use Rattle.std.proofs.lemmas.List.{get_or-map, length-map}
use Rattle.std.proofs.lemmas.Option.{slice_get-get_or, slice_get_within}
use Rattle.bib_collections.proofs.Walks.{below_from_edge, one_solution}
use Rattle.bib_collections.specs.Graph.{HasNoCycle, IsInRange, Leads, one as one_edge, more as more_edges, refs_of}
use Rattle.bib_collections.specs.Sorted.{ByText}
use Rattle.bib_entry.specs.declared.entry.Entry.{Entry}
use Rattle.bib_file_entries.specs.Bibliography.{claims, index_of}
use Rattle.bib_file_entries.specs.Loaded.{is_claimed}
use Rattle.bib_inheritance.proofs.RangeFacts.{graph_in_range}
use Rattle.bib_inheritance.specs.EntryTexts.{EntryTexts, fields_of, no_entry}
use Rattle.bib_inheritance.specs.Inherited.{with_inherited_fields}
use Rattle.bib_inheritance.specs.InheritableDate.{inheritable_date, is_unreadable, looks_for_date}
use Rattle.bib_inheritance.specs.References.{reference_names, references}
use Rattle.bib_inheritance.specs.Resolving.{AreDatesRead, Inherits, at_index, has_bad_date, is_bad_date, rule_by, texts_of_entries, texts_of_entry}
use Rattle.biblatex.proofs.IndexLaws.{points_loaded}
use Rattle.biblatex.proofs.ResolvedFacts.{all_after, names_below}
use Rattle.biblatex.specs.Places.{ClaimsAt, IsLastClaim}
use Rattle.biblatex.specs.Resolved.{graph_of, names_of}
use Rattle.bib_collections.proofs.Roots.{entry_below}
use Rattle.edit_laws.proofs.DifferFacts.{past, same_zip}
use Rattle.edit_laws.proofs.LiftFacts.{at_texts, key_at}
use Rattle.edit_laws.proofs.SolutionFacts.{Contains-first, Contains-later, related}
use Rattle.edit_laws.proofs.TextFacts.{claims_are, claims_by, graph_texts}

-- each index of the new file has the key and the texts of the old index that `move` returns
pub record AreMoved (own others : List Entry) (move : ℕ → ℕ) : Type 0 where
  pub within : (i : ℕ) → i < length others → move i < length own
  pub keys : (i : ℕ) → i < length others → get_or (map (λ (e : Entry). e.key) own) (move i) [] ≡ get_or (map (λ
      (e : Entry). e.key) others) i []
  pub texts : (i : ℕ) → i < length others → at_index (texts_of_entries own) (move i) ≡ at_index (texts_of_entries others) i

-- ---- names

-- each name points to the last entry that claims it, if one claims it
pub points : (own : List Entry) (name : List ℕ)
    → MatchOption (by_name.get (names_of own) name) ((index : ℕ) → ClaimsAt own index name → ⊥) (IsLastClaim own name)
points own name =
    subst
    (λ b. MatchOption (index_of b name) ((index : ℕ) → ClaimsAt b.entries index name → ⊥) (IsLastClaim b.entries name))
    (all_after own refl) (points_loaded own name)

module _ {own others : List Entry} {move : ℕ → ℕ} (are : AreMoved own others move) where
  -- corresponding entries claim the same names
  claims_moved : (i : ℕ) (x y : Entry) → i < length others → slice_get own (move i) ≡ Some x → slice_get others i ≡ Some y
      → claims x ≡ claims y
  claims_moved i x y below here there =
      claims_are x
      ∙ ap (λ key. claims_by key (texts_of_entry x)) (sym (key_at own (move i) x here) ∙ are.keys i below ∙ key_at others i y there)
      ∙ ap (claims_by y.key) (sym (at_texts own (move i) x here) ∙ are.texts i below ∙ at_texts others i y there)
      ∙ sym (claims_are y)

  pub claim_there : (i : ℕ) (name : List ℕ) → ClaimsAt others i name → ClaimsAt own (move i) name
  claim_there i name at =
      let below : i < length others = slice_get_within others i at.entry at.there in
      let x : Entry = get_or own (move i) at.entry in
      let here : slice_get own (move i) ≡ Some x = slice_get-get_or own (move i) at.entry (are.within i below) in
      record {
        entry = x;
        there = here;
        claims = ap (λ c. is_claimed c name) (claims_moved i x at.entry below here at.there) ∙ at.claims;
      }

  pub claim_back : (i : ℕ) (name : List ℕ) → i < length others → ClaimsAt own (move i) name → ClaimsAt others i name
  claim_back i name below at =
      let y : Entry = get_or others i at.entry in
      let there : slice_get others i ≡ Some y = slice_get-get_or others i at.entry below in
      record {
        entry = y;
        there = there;
        claims = ap (λ c. is_claimed c name) (sym (claims_moved i at.entry y below at.there there)) ∙ at.claims;
      }

  module _ (gone : ℕ) (back : (at : ℕ) → at < length own → (at ≡ gone → ⊥) → (i : ℕ) × (i < length others) × (move i ≡ at))
      (last : (name : List ℕ) (at i j : ℕ) → move i ≡ at → ClaimsAt others i name → IsLastClaim own name at → IsLastClaim others name j
      → move j ≡ at) where
    -- a name that doesn't point to the removed entry points to entries that correspond, or to none in both files
    pub names_moved : (name : List ℕ) → (by_name.get (names_of own) name ≡ Some gone → ⊥)
        → by_name.get (names_of own) name ≡ option_map move (by_name.get (names_of others) name)
    names_moved name not_gone =
        go (by_name.get (names_of own) name) (by_name.get (names_of others) name) not_gone (points own name) (points others name)
      where
        go : (o p : Option ℕ) → (o ≡ Some gone → ⊥)
            → MatchOption o ((index : ℕ) → ClaimsAt own index name → ⊥) (IsLastClaim own name)
            → MatchOption p ((index : ℕ) → ClaimsAt others index name → ⊥) (IsLastClaim others name) → o ≡ option_map move p
        go None None there first second = refl
        go None (Some j) there first second = absurd (first (move j) (claim_there j name second.here))
        go (Some at) None there first second =
            let found = back at (slice_get_within own at first.here.entry first.here.there) (λ is. there (ap Some is)) in
            absurd (second found.0 (claim_back found.0 name found.1 (subst (λ x. ClaimsAt own x name) (sym found.2) first.here)))
        go (Some at) (Some j) there first second =
            let found = back at (slice_get_within own at first.here.entry first.here.there) (λ is. there (ap Some is)) in
            let claim = claim_back found.0 name found.1 (subst (λ x. ClaimsAt own x name) (sym found.2) first.here) in
            ap Some (sym (last name at found.0 j found.2 claim first second))

-- ---- references

references_at : (own : List Entry) (k : ℕ) → k < length own
    → refs_of (graph_of own) k ≡ references (names_of own) (at_index (texts_of_entries own) k).fields
references_at own k below =
    ap (λ g. refs_of g k) (graph_texts (names_of own) own)
    ∙ get_or-map (λ (t : EntryTexts). references (names_of own) t.fields) (texts_of_entries own) k no_entry []
    (subst (λ n. k < n) (sym (length-map own texts_of_entry)) below)

found_moved : (names news : ByText ℕ) (move : ℕ → ℕ) (gone : ℕ)
    → ((name : List ℕ) → (by_name.get names name ≡ Some gone → ⊥) → by_name.get names name ≡ option_map move (by_name.get news name))
    → (ns : List (List ℕ)) → (Contains (filter_map (by_name.get names) ns) gone → ⊥)
    → filter_map (by_name.get names) ns ≡ map move (filter_map (by_name.get news) ns)
found_moved names news move gone moved [] none = refl
found_moved names news move gone moved (n ∷ ns) none =
    by_first (by_name.get names n) (by_name.get news n) (moved n) none
    (λ none'. found_moved names news move gone moved ns none')
  where
    rest : List ℕ
    rest = filter_map (by_name.get names) ns

    later : List ℕ
    later = filter_map (by_name.get news) ns

    by_first : (o p : Option ℕ) → ((o ≡ Some gone → ⊥) → o ≡ option_map move p)
        → (Contains (cons_option o (filter_map (by_name.get names) ns)) gone → ⊥)
        → ((Contains (filter_map (by_name.get names) ns) gone → ⊥) → filter_map (by_name.get names) ns ≡ map move (filter_map
        (by_name.get news) ns))
        → cons_option o (filter_map (by_name.get names) ns) ≡ map move (cons_option p (filter_map (by_name.get news) ns))
    by_first None None is none rest = rest none
    by_first None (Some j) is none rest = let no = is (λ e. cc) in cc
    by_first (Some at) None is none rest =
        let no = is (λ e. let same : at ≡ gone = cc in none (subst (λ x. Contains (x ∷ filter_map (by_name.get names) ns) gone)
        (sym same) (Contains-first gone (filter_map (by_name.get names) ns)))) in cc
    by_first (Some at) (Some j) is none rest =
        let same : Some at ≡ Some (move j) =
        is (λ e. let same : at ≡ gone = cc in none (subst (λ x. Contains (x ∷ filter_map (by_name.get names) ns) gone) (sym same)
        (Contains-first gone (filter_map (by_name.get names) ns)))) in
        let head : at ≡ move j = cc in
        ap (λ x. x ∷ filter_map (by_name.get names) ns) head
        ∙ ap (λ l. move j ∷ l) (rest (λ at_rest. none (Contains-later at gone (filter_map (by_name.get names) ns) at_rest)))

Contains-map : (move : ℕ → ℕ) (xs : List ℕ) (x : ℕ) → Contains xs x → Contains (map move xs) (move x)
Contains-map move xs x at = (
  at.0,
  subst (λ n. at.0 < n) (sym (length-map xs move)) at.1,
  get_or-map move xs at.0 x (move x) at.1 ∙ ap move at.2,
)

any_moved : (test : ℕ → Bool) (test' : ℕ → Bool) (move : ℕ → ℕ) (xs : List ℕ) → ((x : ℕ) → Contains xs x → test (move x) ≡ test' x)
    → list_any test (map move xs) ≡ list_any test' xs
any_moved test test' move [] same = refl
any_moved test test' move (x ∷ xs) same =
    ap (λ b. b || list_any test (map move xs)) (same x (Contains-first x xs))
    ∙ ap (λ b. test' x || b) (any_moved test test' move xs (λ y at. same y (Contains-later x y xs at)))

module _ {own others : List Entry} {move : ℕ → ℕ} (are : AreMoved own others move) (gone : ℕ)
    (names : (name : List ℕ) → (by_name.get (names_of own) name ≡ Some gone → ⊥)
    → by_name.get (names_of own) name ≡ option_map move (by_name.get (names_of others) name))
    (unreferenced : (at : ℕ) → Contains (refs_of (graph_of own) at) gone → ⊥) where
  rows : (es : List Entry) → length (graph_of es) ≡ length es
  rows es = length-map es (λ (e : Entry). references (names_of es) (fields_of e.fields))

  in_range : (es : List Entry) → IsInRange (graph_of es)
  in_range es = graph_in_range (names_of es) es (names_below es)

  -- the references of the old entry are those of the new one, at their old indices
  pub references_moved : (i : ℕ) → i < length others → refs_of (graph_of own) (move i) ≡ map move (refs_of (graph_of others) i)
  references_moved i below =
      let texts : EntryTexts = at_index (texts_of_entries own) (move i) in
      let row = references_at own (move i) (are.within i below) in
      row
      ∙ found_moved (names_of own) (names_of others) move gone names (reference_names texts.fields)
      (λ at. unreferenced (move i) (subst (λ l. Contains l gone) (sym row) at))
      ∙ ap (λ (t : EntryTexts). map move (references (names_of others) t.fields)) (are.texts i below)
      ∙ ap (map move) (sym (references_at others i below))

  below_edge : (a b : ℕ) → Contains (refs_of (graph_of others) a) b → a < length others
  below_edge a b edge = omega (arith, entry_below (graph_of others) b a edge, rows others)

  edge_there : (a b : ℕ) → Contains (refs_of (graph_of others) a) b → Contains (refs_of (graph_of own) (move a)) (move b)
  edge_there a b edge =
      subst (λ l. Contains l (move b)) (sym (references_moved a (below_edge a b edge)))
      (Contains-map move (refs_of (graph_of others) a) b edge)

  -- a chain of references in the new file is one in the old file
  leads_there : {a b : ℕ} → Leads (graph_of others) a b → Leads (graph_of own) (move a) (move b)
  leads_there (one_edge {a = a} {b = b} edge) = one_edge (edge_there a b edge)
  leads_there (more_edges {a = a} {b = b} edge leads) = more_edges (edge_there a b edge) (leads_there leads)

  pub no_cycle_moved : HasNoCycle (graph_of own) → HasNoCycle (graph_of others)
  no_cycle_moved none index below leads =
      none (move index)
      (subst (λ n. move index < n) (sym (rows own)) (are.within index (subst (λ n. index < n) (rows others) below))) (leads_there leads)

  module _ (none : HasNoCycle (graph_of others)) (values news : List EntryTexts)
      (first : Inherits (texts_of_entries own) (graph_of own) values)
      (second : Inherits (texts_of_entries others) (graph_of others) news) where
    -- corresponding entries have the same texts after inheriting
    pub same_moved : (i : ℕ) → i < length others → at_index values (move i) ≡ at_index news i
    same_moved i below =
        related (graph_of own) (graph_of others) (in_range others) move no_entry (rule_by (texts_of_entries own))
        (rule_by (texts_of_entries others)) (λ x y. x ≡ y) (λ x. Unit {0})
        (λ a inside.
        subst (λ n. move a < n) (sym (rows own)) (are.within a (subst (λ n. a < n) (rows others) inside)))
        (λ a inside q. references_moved a (subst (λ n. a < n) (rows others) inside)) (λ a b q edge. tt)
        (λ a inside q xs ys all.
        ap (λ t. with_inherited_fields t xs) (are.texts a (subst (λ n. a < n) (rows others) inside))
        ∙ ap (with_inherited_fields (at_index (texts_of_entries others) a)) (same_zip xs ys all)) none values news i first second
        (subst (λ n. i < n) (sym (rows others)) below) tt

    edge_below : (a b : ℕ) → a < length others → Contains (refs_of (graph_of others) a) b → b < length others
    edge_below a b below edge =
        subst (λ n. b < n) (rows others)
        (below_from_edge (graph_of others) a b (in_range others) (subst (λ n. a < n) (sym (rows others)) below) edge)

    -- an entry has a bad date exactly if the old entry has one
    pub bad_moved : (i : ℕ) → i < length others
        → has_bad_date (texts_of_entries others) (graph_of others) news i ≡ has_bad_date (texts_of_entries own)
        (graph_of own) values (move i)
    bad_moved i below =
        ap (λ b. b && list_any (is_bad_date news) (refs_of (graph_of others) i)) (ap looks_for_date (sym (are.texts i below)))
        ∙ ap (λ b. looks_for_date (at_index (texts_of_entries own) (move i)) && b)
        (sym
        (ap (list_any (is_bad_date values)) (references_moved i below)
        ∙ any_moved (is_bad_date values) (is_bad_date news) move (refs_of (graph_of others) i)
        (λ b edge. ap (λ (t : EntryTexts). is_unreadable (inheritable_date t.fields)) (same_moved b (edge_below i b below edge)))))

-- ---- errors

no_date_required : looks_for_date no_entry ≡ true → ⊥
no_date_required looks = cc

module _ {own others : List Entry} {move : ℕ → ℕ} (are : AreMoved own others move) (gone : ℕ)
    (names : (name : List ℕ) → (by_name.get (names_of own) name ≡ Some gone → ⊥)
    → by_name.get (names_of own) name ≡ option_map move (by_name.get (names_of others) name))
    (unreferenced : (at : ℕ) → Contains (refs_of (graph_of own) at) gone → ⊥) where
  -- if the old file has no cycle and no bad date, the new file has no bad date
  pub no_bad_date : HasNoCycle (graph_of own)
      → ((values : List EntryTexts) → Inherits (texts_of_entries own) (graph_of own) values
      → AreDatesRead (texts_of_entries own) (graph_of own) values)
      → (news : List EntryTexts) → Inherits (texts_of_entries others) (graph_of others) news → (index : ℕ)
      → looks_for_date (at_index (texts_of_entries others) index) ≡ true
      → list_any (is_bad_date news) (refs_of (graph_of others) index) ≡ true → ⊥
  no_bad_date none dates news second index looks bad = by_range (cases_lt index (length others))
    where
      by_range : (index < length others) ⊎ (length others ≤ index) → ⊥
      by_range (inl below) =
          let old =
          one_solution (graph_of own) (graph_in_range (names_of own) own (names_below own)) none no_entry (rule_by
          (texts_of_entries own)) in
          let is_bad : has_bad_date (texts_of_entries others) (graph_of others) news index ≡ true =
          ap (λ b. b && list_any (is_bad_date news) (refs_of (graph_of others) index)) looks ∙ bad in
          both_ways _ (dates old.0 old.1 (move index))
          (sym (bad_moved are gone names unreferenced
          (no_cycle_moved are gone names unreferenced none) old.0 news old.1 second index below)
          ∙ is_bad)
      by_range (inr above) =
          no_date_required
          (subst (λ t. looks_for_date t ≡ true)
          (past (texts_of_entries others) index (omega (arith, above, length-map others texts_of_entry))) looks)
