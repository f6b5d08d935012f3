-- Entries on cycles lose their references.
use Rattle.std.proofs.Common.{◌≡◌, ◌≢◌, ℕ, zero, suc, ◌+◌, ◌<◌, ◌≤◌, List, [], ◌∷◌, ◌++◌, length, set, map, cond, refl, sym, ap, ◌∙◌, subst, arith, inl, inr, ◌⊎◌, ⊎_elim, Option, Some, None, option_map, add-one, length-set, get_or-set_other, get_or-set_same}
use Rattle.std.specs.Prelude.{codes, slice_get}
use Rattle.std.specs.FinMap as by_name
use Rattle.std.specs.List.{All, Contains, filter_map}
use Rattle.std.specs.Option.{option_map_or}
use Rattle.std.specs.declared.ops.Range.{Range}
use Rattle.std.proofs.lemmas.Bool.Decides.{eqb_tells}
use Rattle.std.proofs.lemmas.List.{map-set}
use Rattle.std.proofs.lemmas.List.Elements.{All-from_get_or, All-get_or, All-nil}
use Rattle.std.proofs.lemmas.Option.{get_or_from_slice_get, slice_get-get_or, slice_get_within}
use Rattle.bib_text.specs.declared.spanned.Spanned.{Spanned}
use Rattle.bib_chunks.specs.declared.chunk.Chunk.{Chunk}
use Rattle.bib_chunks.specs.Styled.{Atom, styled}
use Rattle.bib_entry.specs.declared.entry.Entry.{Entry}
use Rattle.bib_collections.specs.Graph.{Graph, HasNoCycle, Leads, one, more, refs_of}
use Rattle.bib_inheritance.specs.References.{references}
use Rattle.bib_inheritance.specs.EntryTexts.{FieldTexts, fields_of}
use Rattle.bib_collections.specs.Sorted.{ByText}
use Rattle.bib_collections.proofs.LeadFacts.{first_edge}
use Rattle.bib_syntax.specs.declared.raw.ParseError.{ParseError}
use Rattle.bib_inheritance.specs.Cutting.{IsCut}
use Rattle.bib_inheritance.specs.Recovered.{EachReported, none, passed, reported, without_references}
use Rattle.bib_inheritance.specs.Resolving.{IsCycleAt, graph_by}
use Rattle.bib_inheritance.proofs.FieldFacts.{removed_at}
use Rattle.bib_inheritance.proofs.TurnFacts.{keys_kept}
use Rattle.bib_text.proofs.ListFacts.{some_same, contains_nothing}

-- ---- lists

set_here : {A : Type 0} (xs : List A) (i : ℕ) (x : A) → i < length xs → slice_get (set xs i x) i ≡ Some x
set_here xs i x within =
    slice_get-get_or (set xs i x) i x (omega (arith, within, length-set xs i x))
    ∙ ap Some (get_or-set_same xs i x x within)

set_apart : {A : Type 0} (xs : List A) (i k : ℕ) (x : A) → k ≢ i → slice_get (set xs i x) k ≡ slice_get xs k
set_apart [] i k x apart = refl
set_apart (y ∷ xs) zero zero x apart = absurd (apart refl)
set_apart (y ∷ xs) zero (suc k) x apart = refl
set_apart (y ∷ xs) (suc i) zero x apart = refl
set_apart (y ∷ xs) (suc i) (suc k) x apart = set_apart xs i k x (λ e. apart (ap suc e))

-- ---- an entry that lost its references refers to nothing

abbrev Fields : Type 0
Fields = ByText (List (Spanned Chunk))

-- fields without `crossref` and `xdata` have no references
no_names : (names : ByText ℕ) (fields : FieldTexts) → fields (codes "crossref") ≡ None → fields (codes "xdata") ≡ None
    → references names fields ≡ []
no_names names fields crossref xdata = go _ _ (fields (codes "crossref")) (fields (codes "xdata")) crossref xdata where
  go : (first second : List Atom → List (List ℕ)) (a b : Option (List Atom)) → a ≡ None → b ≡ None
      → filter_map (by_name.get names) (option_map_or first a [] ++ option_map_or second b []) ≡ []
  go first second None None a b = refl
  go first second None (Some x) a b = cc
  go first second (Some x) b is other = cc

-- an entry that lost its references refers to nothing
refers_to_nothing : (names : ByText ℕ) (e : Entry) → references names (fields_of (without_references e).fields) ≡ []
refers_to_nothing names e =
    let rest : Fields = by_name.remove e.fields (codes "crossref") in
    no_names names (fields_of (without_references e).fields)
    (ap (option_map styled)
    (removed_at rest (codes "xdata") (codes "crossref") ∙ removed_at e.fields (codes "crossref") (codes "crossref")))
    (ap (option_map styled) (removed_at rest (codes "xdata") (codes "xdata")))

-- ---- errors

-- if no index fails, there are no errors
pub none_reported : (fails : ℕ → Type 0) (reports : ℕ → ParseError → Type 0) (n : ℕ)
    → ((index : ℕ) → index < n → fails index → ⊥) → EachReported fails reports n []
none_reported fails reports zero never = none
none_reported fails reports (suc n) never =
    subst (λ k. EachReported fails reports k []) (add-one n)
    (passed (none_reported fails reports n (λ index below. never index (omega arith))) (never n (omega arith)))

-- the errors stay valid if `fails` is replaced by an equivalent condition and `reports` by a weaker one
pub each_same : (fails fails' : ℕ → Type 0) (reports reports' : ℕ → ParseError → Type 0) (n : ℕ)
    (errors : List ParseError) → ((index : ℕ) → fails index → fails' index)
    → ((index : ℕ) → fails' index → fails index) → ((index : ℕ) (e : ParseError) → reports index e → reports' index e)
    → EachReported fails reports n errors → EachReported fails' reports' n errors
each_same fails fails' reports reports' n errors there back same none = none
each_same fails fails' reports reports' n errors there back same (passed {index = index} {errors = before} h never) =
    passed (each_same fails fails' reports reports' index before there back same h) (λ f. never (back index f))
each_same fails fails' reports reports' n errors there back same (reported {index = index} {errors = before} {e = e} h f r) =
    reported (each_same fails fails' reports reports' index before there back same h) (there index f) (same index e r)

-- ---- all entries on cycles

module _ (spans : List (Range ℕ)) (own : List Entry) (graph : Graph) where
  abbrev pub IsOnCycle : ℕ → Type 0
  IsOnCycle index = Leads graph index index

  -- the entries below `i` that are on cycles have lost their references, also in the graph, and are reported
  pub record HaveCut (i : ℕ) (entries : List Entry) (refs : Graph) (errors : List ParseError) : Type 0 where
    pub as_long : length entries ≡ length own
    pub keys : map (λ e. e.key) entries ≡ map (λ e. e.key) own
    pub on_cycle : (index : ℕ) (entry : Entry) → index < i → slice_get own index ≡ Some entry → IsOnCycle index
        → slice_get entries index ≡ Some (without_references entry)
    pub off_cycle : (index : ℕ) (entry : Entry) → index < i → slice_get own index ≡ Some entry → (IsOnCycle index → ⊥)
        → slice_get entries index ≡ Some entry
    pub later : (index : ℕ) → i ≤ index → slice_get entries index ≡ slice_get own index
    pub rows : length refs ≡ length graph
    pub fewer : (index : ℕ) → (refs_of refs index ≡ refs_of graph index) ⊎ (refs_of refs index ≡ [])
    pub nothing : (index : ℕ) → index < i → IsOnCycle index → refs_of refs index ≡ []
    pub follows : (names : ByText ℕ) → graph ≡ graph_by names own → refs ≡ graph_by names entries
    pub each : EachReported IsOnCycle (IsCycleAt spans own) i errors

  -- before the first index, nothing has changed
  pub cut_none : HaveCut 0 own graph []
  cut_none = record {
    as_long = refl;
    keys = refl;
    on_cycle = λ index entry below. absurd (omega (arith, below));
    off_cycle = λ index entry below. absurd (omega (arith, below));
    later = λ index above. refl;
    rows = refl;
    fewer = λ index. inl refl;
    nothing = λ index below. absurd (omega (arith, below));
    follows = λ names is. is;
    each = none;
  }

  -- an entry that isn't on a cycle stays unchanged
  pub cut_on : (i : ℕ) (entries : List Entry) (refs : Graph) (errors : List ParseError) → (IsOnCycle i → ⊥)
      → HaveCut i entries refs errors → HaveCut (i + 1) entries refs errors
  cut_on i entries refs errors off h = record {
    as_long = h.as_long;
    keys = h.keys;
    on_cycle = λ index entry below there leads. elim (eqb_tells index i) [
      | inl t ↦ absurd (off (subst IsOnCycle t.1 leads))
      | inr t ↦ h.on_cycle index entry (omega (arith, below, t.1)) there leads
    ];
    off_cycle = λ index entry below there apart. elim (eqb_tells index i) [
      | inl t ↦ h.later index (omega (arith, t.1)) ∙ there
      | inr t ↦ h.off_cycle index entry (omega (arith, below, t.1)) there apart
    ];
    later = λ index above. h.later index (omega (arith, above));
    rows = h.rows;
    fewer = h.fewer;
    nothing = λ index below leads. elim (eqb_tells index i) [
      | inl t ↦ absurd (off (subst IsOnCycle t.1 leads))
      | inr t ↦ h.nothing index (omega (arith, below, t.1)) leads
    ];
    follows = h.follows;
    each = passed h.each off;
  }

  -- the error of a cycle depends only on the entry at the index
  own_cycle : (i : ℕ) (entries : List Entry) (e : ParseError) → slice_get entries i ≡ slice_get own i
      → IsCycleAt spans entries i e → IsCycleAt spans own i e
  own_cycle i entries e same at = record { entry = at.entry; span = at.span; here = sym same ∙ at.here; stands = at.stands; is = at.is }

  -- an entry on a cycle loses its references, and is reported
  pub cut_more : (i : ℕ) (entries : List Entry) (refs : Graph) (errors : List ParseError) (old new : Entry)
      (e : ParseError) → length graph ≡ length own → i < length own → IsOnCycle i → IsCycleAt spans entries i e
      → slice_get entries i ≡ Some old → new ≡ without_references old
      → HaveCut i entries refs errors → HaveCut (i + 1) (set entries i new) (set refs i []) (errors ++ e ∷ [])
  cut_more i entries refs errors old new e rows within leads at here is h =
      let in_entries : i < length entries = omega (arith, within, h.as_long) in
      let in_refs : i < length refs = omega (arith, within, h.rows, rows) in
      record {
        as_long = length-set entries i new ∙ h.as_long;
        keys =
            keys_kept entries i new
            (ap (λ (x : Entry). x.key) is
            ∙ ap (λ (x : Entry). x.key) (sym (get_or_from_slice_get entries i old new here))) ∙ h.keys;
        on_cycle = λ index entry below there on. elim (eqb_tells index i) [
          | inl t ↦
              let same : Some old ≡ Some entry = sym here ∙ h.later i (omega arith) ∙ ap (slice_get own) (sym t.1) ∙ there in
              ap (slice_get (set entries i new)) t.1 ∙ set_here entries i new in_entries
              ∙ ap Some (is ∙ ap without_references (some_same same))
          | inr t ↦ set_apart entries i index new t.1 ∙ h.on_cycle index entry (omega (arith, below, t.1)) there on
        ];
        off_cycle = λ index entry below there apart. elim (eqb_tells index i) [
          | inl t ↦ absurd (apart (subst IsOnCycle (sym t.1) leads))
          | inr t ↦ set_apart entries i index new t.1 ∙ h.off_cycle index entry (omega (arith, below, t.1)) there apart
        ];
        later = λ index above.
            let apart : index ≢ i = omega (arith, above) in
            set_apart entries i index new apart ∙ h.later index (omega (arith, above));
        rows = length-set refs i [] ∙ h.rows;
        fewer = λ index. elim (eqb_tells index i) [
          | inl t ↦ inr (ap (refs_of (set refs i [])) t.1 ∙ get_or-set_same refs i [] [] in_refs)
          | inr t ↦ ⊎_elim (λ same. inl (get_or-set_other refs i index [] [] t.1 ∙ same))
              (λ gone. inr (get_or-set_other refs i index [] [] t.1 ∙ gone)) (h.fewer index)
        ];
        nothing = λ index below on. elim (eqb_tells index i) [
          | inl t ↦ ap (refs_of (set refs i [])) t.1 ∙ get_or-set_same refs i [] [] in_refs
          | inr t ↦ get_or-set_other refs i index [] [] t.1 ∙ h.nothing index (omega (arith, below, t.1)) on
        ];
        follows = λ names by.
            let of : Entry → List ℕ = λ x. references names (fields_of x.fields) in
            ap (λ l. set l i []) (h.follows names by)
            ∙ sym (map-set of entries i new ∙ ap (set (graph_by names entries) i) (ap of is ∙ refers_to_nothing names old));
        each = reported h.each leads (own_cycle i entries e (h.later i (omega arith)) at);
      }

  module _ (i : ℕ) (entries : List Entry) (refs : Graph) (errors : List ParseError) (h : HaveCut i entries refs errors) where
    edge_kept : (a b : ℕ) → Contains (refs_of refs a) b → Contains (refs_of graph a) b
    edge_kept a b edge =
        ⊎_elim (λ same. subst (λ l. Contains l b) same edge)
        (λ gone. absurd (contains_nothing (subst (λ l. Contains l b) gone edge))) (h.fewer a)

    chain_kept : (a b : ℕ) → Leads refs a b → Leads graph a b
    chain_kept a b (one edge) = one (edge_kept a b edge)
    chain_kept a c (more {b = b} edge leads) = more (edge_kept a b edge) (chain_kept b c leads)

    -- after the last index, all entries on cycles have lost their references
    pub cut_all : i ≡ length own → length graph ≡ length own → IsCut spans own graph entries refs errors
    cut_all at_end rows = record {
      cut = record {
        same_length = h.as_long;
        on_cycle = λ index entry there. h.on_cycle index entry (omega (arith, slice_get_within own index entry there, at_end)) there;
        off_cycle = λ index entry there. h.off_cycle index entry (omega (arith, slice_get_within own index entry there, at_end)) there;
      };
      keys = h.keys;
      in_range = λ in_range. All-from_get_or (λ row. All (λ r. r < length refs) row) refs []
          (λ k below. subst (λ n. All (λ r. r < n) (refs_of refs k)) (sym h.rows) (⊎_elim
          (λ same.
          subst (λ l. All (λ r. r < length graph) l) (sym same)
          (All-get_or (λ row. All (λ r. r < length graph) row) graph k [] (omega (arith, below, h.rows))
          in_range))
          (λ gone. subst (λ l. All (λ r. r < length graph) l) (sym gone) (All-nil (λ r. r < length graph)))
          (h.fewer k)));
      no_cycle = λ index within leads.
          let first = first_edge leads in
          contains_nothing
          (subst (λ l. Contains l first.0)
          (h.nothing index (omega (arith, within, h.rows, rows, at_end)) (chain_kept index index leads)) first.1);
      follows = h.follows;
      reported = subst (λ n. EachReported IsOnCycle (IsCycleAt spans own) n errors) at_end h.each;
    }

  -- without cycles, nothing changes
  pub cut_nothing : HasNoCycle graph → length graph ≡ length own → IsCut spans own graph own graph []
  cut_nothing never rows = record {
    cut = record {
      same_length = refl;
      on_cycle = λ index entry there leads. absurd (never index (omega (arith, slice_get_within own index entry there, rows)) leads);
      off_cycle = λ index entry there off. there;
    };
    keys = refl;
    in_range = λ in_range. in_range;
    no_cycle = never;
    follows = λ names is. is;
    reported = none_reported IsOnCycle (IsCycleAt spans own) (length own) (λ index within. never index (omega (arith, within, rows)));
  }
