-- Entries of which fields may be lost, and lists of entries with flags.
use Rattle.std.proofs.Common.{◌≡◌, ◌↔◌, ◌<◌, ◌+◌, ℕ, zero, suc, Bool, true, false, List, [], ◌∷◌, ◌++◌, length, get_or, take, replicate, refl, sym, ap, ◌∙◌, subst, arith, inl, inr, ⊎_elim}
use Rattle.std.specs.List.{All, Contains}
use Rattle.std.proofs.lemmas.Bool.{cases_lt, false≢true}
use Rattle.std.proofs.lemmas.List.{get_or-map, length-map, length-replicate, length-take, map_push}
use Rattle.std.proofs.lemmas.List.Elements.{All-get_or, Contains-append_left, Contains-push, Contains-push_cases}
use Rattle.bib_collections.specs.Graph.{Graph}
use Rattle.bib_collections.specs.Names.{AreIndicesBelow}
use Rattle.bib_collections.specs.Sorted.{ByText}
use Rattle.bib_entry.specs.declared.entry.Entry.{Entry}
use Rattle.bib_inheritance.specs.EntryTexts.{fields_of}
use Rattle.bib_inheritance.specs.References.{references}
use Rattle.bib_inheritance.specs.Resolving.{graph_by}
use Rattle.bib_inheritance.proofs.RangeFacts.{graph_in_range}
use Rattle.bib_queries.specs.Needed.{AreMarks}
use Rattle.bib_queries.proofs.MarkFacts.{none_marked}
use Rattle.bib_syntax.specs.Reading.{EntryReading}
use Rattle.bib_syntax.specs.declared.raw.recovery.SkippedBlock.{SkippedBlock}
use Rattle.bib_findings.specs.Lacking.{MayLack, is_cut_at, with_flags}
use Rattle.bib_findings.specs.Reaching.{IsReversed, IsReached}
use Rattle.bib_findings.proofs.ListFacts.{more}
use Rattle.bib_findings.proofs.ReachFacts.{HasReferrers, IsAdded, reversed_push}

-- the index of a cut entry is that of a kept one
pub cut_within : (skipped : List SkippedBlock) (said : List EntryReading) (origins : List ℕ) (index : ℕ)
    → is_cut_at skipped said origins index ≡ true → index < length origins
cut_within skipped said [] index is = absurd (false≢true is)
cut_within skipped said (origin ∷ origins) zero is = omega arith
cut_within skipped said (origin ∷ origins) (suc index) is = omega (arith, cut_within skipped said origins index is)

-- if a list contains exactly the indices below `next` that pass a test, and `next` passes, the list with `next` appended contains exactly
-- the indices below `next + 1` that pass
pub passed_next : (test : ℕ → Bool) (indices indices' : List ℕ) (next : ℕ) → test next ≡ true → indices' ≡ indices ++ next ∷ []
    → ((i : ℕ) → Contains indices i ↔ ((i < next) × (test i ≡ true)))
    → (i : ℕ) → Contains indices' i ↔ ((i < next + 1) × (test i ≡ true))
passed_next test indices indices' next passes more so i = (
  λ held. ⊎_elim (λ c. (omega (arith, ((so i).0 c).0), ((so i).0 c).1)) (λ e. (omega (arith, e), subst (λ n. test n ≡ true) e passes))
      (Contains-push_cases indices next i (subst (λ l. Contains l i) more held)),
  λ is. subst (λ l. Contains l i) (sym more) (elim (cases_lt i next) [
    | inl t ↦ Contains-append_left indices (next ∷ []) i ((so i).1 (t, is.1))
    | inr t ↦ let e : next ≡ i = omega (arith, is.0, t) in subst (Contains (indices ++ next ∷ [])) e (Contains-push indices next)
  ]),
)

-- if a list contains exactly the indices below `next` that pass a test, and `next` doesn't pass, it contains exactly the indices below
-- `next + 1` that pass
pub failed_next : (test : ℕ → Bool) (indices indices' : List ℕ) (next : ℕ) → test next ≡ false → indices' ≡ indices
    → ((i : ℕ) → Contains indices i ↔ ((i < next) × (test i ≡ true)))
    → (i : ℕ) → Contains indices' i ↔ ((i < next + 1) × (test i ≡ true))
failed_next test indices indices' next fails same so i = (
  λ held. let old = (so i).0 (subst (λ l. Contains l i) same held) in (omega (arith, old.0), old.1),
  λ is. subst (λ l. Contains l i) (sym same) (elim (cases_lt i next) [
    | inl t ↦ (so i).1 (t, is.1)
    | inr t ↦ let e : i ≡ next = omega (arith, is.0, t) in absurd (false≢true (sym fails ∙ subst (λ n. test n ≡ true) e is.1))
  ]),
)

-- if fields of some entry may be lost, some entry is cut
some_cut : {graph : Graph} {is_cut : ℕ → Bool} {index : ℕ} → MayLack graph is_cut index → (k : ℕ) × (is_cut k ≡ true)
some_cut {index = index} (MayLack.cut is) = (index, is)
some_cut (MayLack.refers edge lacks) = some_cut lacks

-- if no entry is cut, there is no entry of which fields may be lost
pub none_lacking : (graph : Graph) (is_cut : ℕ → Bool) (count : ℕ) → ((k : ℕ) → is_cut k ≡ true → ⊥)
    → AreMarks (MayLack graph is_cut) count (replicate count false)
none_lacking graph is_cut count none = record {
  same_length = length-replicate count false;
  each = λ index below. (
    λ is. absurd (none_marked count index is),
    λ lacks. absurd (none (some_cut lacks).0 (some_cut lacks).1),
  );
}

module _ (graph children : Graph) (is_cut : ℕ → Bool) (cut : List ℕ) (turned : IsReversed graph children)
    (all : (index : ℕ) → Contains cut index ↔ (is_cut index ≡ true)) where
  lacks_of : (index : ℕ) → IsReached children cut index → MayLack graph is_cut index
  lacks_of index (IsReached.start held) = MayLack.cut ((all index).0 held)
  lacks_of index (IsReached.next {from = from} before edge) = MayLack.refers ((turned.each from index).0 edge) (lacks_of from before)

  reached_of : (index : ℕ) → MayLack graph is_cut index → IsReached children cut index
  reached_of index (MayLack.cut is) = IsReached.start ((all index).1 is)
  reached_of index (MayLack.refers {parent = parent} edge lacks) =
      IsReached.next (reached_of parent lacks) ((turned.each parent index).1 edge)

  -- fields of an entry may be lost exactly if it is reached from a cut entry by reversed references
  pub lacking_of : (count : ℕ) (marks : List Bool) → count ≡ length graph → AreMarks (IsReached children cut) (length children) marks
      → AreMarks (MayLack graph is_cut) count marks
  lacking_of count marks is are = record {
    same_length = are.same_length ∙ turned.same_length ∙ sym is;
    each = λ index below.
        let so = are.each index (omega (arith, below, is, turned.same_length)) in
        (λ marked. lacks_of index (so.0 marked), λ lacks. so.1 (reached_of index lacks));
  }

-- if the indices of all names are in range, so are the references of an entry
pub parents_below : (names : ByText ℕ) (own : List Entry) (index : ℕ) (entry : Entry) → AreIndicesBelow (length own) names
    → index < length own → entry ≡ get_or own index entry → All (λ parent. parent < length own) (references names (fields_of entry.fields))
parents_below names own index entry below within is =
    let row : Entry → List ℕ = λ e. references names (fields_of e.fields) in
    let graph : Graph = graph_by names own in
    subst (λ n. All (λ parent. parent < n) (row entry)) (length-map own row)
    (subst (λ l. All (λ parent. parent < length graph) l) (get_or-map row own index entry [] within ∙ ap row (sym is))
    (All-get_or (λ refs. All (λ r. r < length graph) refs) graph index [] (omega (arith, within, length-map own row))
    (graph_in_range names own below)))

-- adding the next entry to the lists of its parents reverses the references of one entry more
pub children_next : (names : ByText ℕ) (own : List Entry) (index : ℕ) (entry : Entry) (parents : List ℕ) (lists lists' : Graph)
    → index < length own → entry ≡ get_or own index entry → parents ≡ references names (fields_of entry.fields)
    → HasReferrers (graph_by names (take index own)) lists
    → IsAdded lists lists' parents index → HasReferrers (graph_by names (take (index + 1) own)) lists'
children_next names own index entry parents lists lists' within is found so added =
    let before : Graph = graph_by names (take index own) in
    let row : Entry → List ℕ = λ e. references names (fields_of e.fields) in
    let count : index ≡ length before = omega (arith, length-map (take index own) row, length-take index own, within) in
    let next : graph_by names (take (index + 1) own) ≡ before ++ parents ∷ [] =
    ap (graph_by names) (more own index entry within is) ∙ map_push row (take index own) entry ∙ ap (λ l. before ++ l ∷ []) (sym found) in
    subst (λ g. HasReferrers g lists') (sym next) (reversed_push before lists lists' parents index count so added)

-- there are as many entries with flags as entries
pub flags_count : (flags : List Bool) (entries : List Entry) → length (with_flags flags entries) ≡ length entries
flags_count flags [] = refl
flags_count [] (entry ∷ entries) = ap suc (flags_count [] entries)
flags_count (flag ∷ flags) (entry ∷ entries) = ap suc (flags_count flags entries)

-- each entry comes after its flag, or after `false` if it has none
pub flag_of : (flags : List Bool) (entries : List Entry) (index : ℕ) (entry : Entry) → index < length entries
    → entry ≡ get_or entries index entry
    → (get_or flags index false, entry) ≡ get_or (with_flags flags entries) index (get_or flags index false, entry)
flag_of flags [] index entry within is = absurd (omega (arith, within))
flag_of [] (first ∷ entries) zero entry within is = ap (λ e. (false, e)) is
flag_of [] (first ∷ entries) (suc index) entry within is = flag_of [] entries index entry (omega (arith, within)) is
flag_of (flag ∷ flags) (first ∷ entries) zero entry within is = ap (λ e. (flag, e)) is
flag_of (flag ∷ flags) (first ∷ entries) (suc index) entry within is = flag_of flags entries index entry (omega (arith, within)) is
