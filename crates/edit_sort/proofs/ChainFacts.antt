-- Chains of references. The chains to an entry have at most as many references as there are entries, if it is neither on a cycle nor after
-- one.
use Rattle.std.proofs.Common.{◌≡◌, inl, inr, ℕ, zero, suc, ◌+◌, ◌<◌, ◌≤◌, true, false, eqb, List, [], ◌∷◌, Some, length, slice_get, sym, ap, ◌∙◌, subst, arith}
use Rattle.std.specs.Prelude.{◌&&◌}
use Rattle.std.specs.List.{AllByRecursion, Contains, IsDistinct}
use Rattle.std.proofs.lemmas.Bool.{and_from, and_parts, eqb-true}
use Rattle.std.proofs.lemmas.Bool.Decides.{eqb_tells}
use Rattle.std.proofs.lemmas.List.Elements.{All-contains, All-from_recursion}
use Rattle.std.proofs.lemmas.List.Folds.{Any-from_list_any}
use Rattle.std.proofs.lemmas.Map.Steps.{length-le_from_distinct_below}
use Rattle.std.proofs.lemmas.Map.Views.{Contains-from_any}
use Rattle.std.proofs.lemmas.Option.{same_Some, slice_get-get_or}
use Rattle.bib_syntax.specs.Reading.{EntryReading}
use Rattle.edit_sort.specs.Sorted.{IsAfterCycle, IsChain, has_chain, refers_to}
use Rattle.edit_sort.proofs.SetFacts.{any_contained}

-- a chain with one more reference at its start is a chain
pub chain_before : {entries : List EntryReading} {n : ℕ} {child parent last : EntryReading} → Contains entries child
    → refers_to parent.key.text child ≡ true → IsChain entries n parent last → IsChain entries (suc n) child last
chain_before there refers IsChain.none = IsChain.more IsChain.none there refers
chain_before there refers (IsChain.more chain there' refers') = IsChain.more (chain_before there refers chain) there' refers'

-- if a chain leads to a child, one with one more reference leads to its parent
pub chain_after : (entries : List EntryReading) (n : ℕ) (child parent : EntryReading) → Contains entries child
    → refers_to parent.key.text child ≡ true → has_chain entries n child ≡ true → has_chain entries (suc n) parent ≡ true
chain_after entries n child parent there refers chain =
    any_contained (λ e. refers_to parent.key.text e && has_chain entries n e) entries child there
    (and_from (refers_to parent.key.text child) (has_chain entries n child) refers chain)

module _ (entries : List EntryReading) where
  -- an entry that names `e`, and to which a chain of `n` references leads
  record Child (n : ℕ) (e : EntryReading) : Type 0 where
    index : ℕ
    child : EntryReading
    within : index < length entries
    here : slice_get entries index ≡ Some child
    there : Contains entries child
    refers : refers_to e.key.text child ≡ true
    chain : has_chain entries n child ≡ true

  child_of : (n : ℕ) (e : EntryReading) → has_chain entries (suc n) e ≡ true → Child n e
  child_of n e chain =
      let found = Any-from_list_any (λ child. refers_to e.key.text child && has_chain entries n child) entries chain in
      let parts = and_parts (refers_to e.key.text found.1) (has_chain entries n found.1) found.4 in
      record {
        index = found.0;
        child = found.1;
        within = found.2;
        here = slice_get-get_or entries found.0 found.1 found.2 ∙ ap Some found.3;
        there = (found.0, found.2, found.3);
        refers = parts.0;
        chain = parts.1;
      }

  -- a chain leads from an entry to the entry at an index
  record LeadsTo (e : EntryReading) (index : ℕ) : Type 0 where
    steps : ℕ
    last : EntryReading
    here : slice_get entries index ≡ Some last
    chain : IsChain entries steps e last

  -- there are at most as many distinct indices of entries as entries
  few : (visited : List ℕ) → AllByRecursion (λ v. v < length entries) visited → IsDistinct eqb visited → length visited ≤ length entries
  few visited below distinct =
      length-le_from_distinct_below visited (length entries) distinct
      (λ q h.
      All-contains (λ v. v < length entries) visited q (All-from_recursion (λ v. v < length entries) visited below)
      (Contains-from_any eqb-true q visited h))

  module _ (last : EntryReading) (fine : IsAfterCycle entries last → ⊥) where
    -- if an entry leads to `last`, which is on no cycle and after none, then none of the entries to which it leads names it
    no_cycle_at : (q v : ℕ) (child e : EntryReading) → slice_get entries q ≡ Some child → Contains entries child
        → refers_to e.key.text child ≡ true → (m : ℕ) → IsChain entries m e last → LeadsTo e v → q ≡ v → ⊥
    no_cycle_at q v child e here there refers m reached leads same =
        let is : leads.last ≡ child = same_Some leads.last child (sym leads.here ∙ ap (slice_get entries) (sym same) ∙ here) in
        fine (record {
          start = child;
          others = leads.steps;
          cycle = chain_before there refers (subst (IsChain entries leads.steps e) is leads.chain);
          steps = suc m;
          reached = chain_before there refers reached;
        })

    apart : (q : ℕ) (child e : EntryReading) (visited : List ℕ) → slice_get entries q ≡ Some child → Contains entries child
        → refers_to e.key.text child ≡ true → (m : ℕ) → IsChain entries m e last
        → AllByRecursion (LeadsTo e) visited → AllByRecursion (λ v. eqb q v ≡ false) visited
    apart q child e [] here there refers m reached leads = tt
    apart q child e (v ∷ vs) here there refers m reached leads = (
      elim (eqb_tells q v) [
        | inl same ↦ absurd (no_cycle_at q v child e here there refers m reached leads.0 same.1)
        | inr other ↦ other.0
      ],
      apart q child e vs here there refers m reached leads.1,
    )

    all_before : (child e : EntryReading) (visited : List ℕ) → Contains entries child → refers_to e.key.text child ≡ true
        → AllByRecursion (LeadsTo e) visited → AllByRecursion (LeadsTo child) visited
    all_before child e [] there refers leads = tt
    all_before child e (v ∷ vs) there refers leads = (
      record {
        steps = suc leads.0.steps;
        last = leads.0.last;
        here = leads.0.here;
        chain = chain_before there refers leads.0.chain;
      },
      all_before child e vs there refers leads.1,
    )

    -- If an entry leads to `last` and to the entries at distinct visited indices, no chain of more references than there are other indices
    -- leads to it. `last` is on no cycle and after none.
    no_chain_from : (k : ℕ) (visited : List ℕ) (e : EntryReading) → length visited + k ≡ length entries
        → AllByRecursion (λ v. v < length entries) visited → IsDistinct eqb visited → AllByRecursion (LeadsTo e) visited
        → (m : ℕ) → IsChain entries m e last → has_chain entries (suc k) e ≡ true → ⊥
    unfolding IsDistinct
    no_chain_from zero visited e n below distinct leads m reached chain =
        let c = child_of 0 e chain in
        let away = apart c.index c.child e visited c.here c.there c.refers m reached leads in
        let many = few (c.index ∷ visited) (c.within, below) (away, distinct) in omega arith
    no_chain_from (suc k) visited e n below distinct leads m reached chain =
        let c = child_of (suc k) e chain in
        let away = apart c.index c.child e visited c.here c.there c.refers m reached leads in
        let first : LeadsTo c.child c.index = record { steps = 0; last = c.child; here = c.here; chain = IsChain.none } in
        no_chain_from k (c.index ∷ visited) c.child (omega arith) (c.within, below) (away, distinct)
        (first, all_before c.child e visited c.there c.refers leads) (suc m) (chain_before c.there c.refers reached) c.chain

    pub no_long_chain : has_chain entries (suc (length entries)) last ≡ true → ⊥
    unfolding IsDistinct
    no_long_chain chain = no_chain_from (length entries) [] last (omega arith) tt tt tt 0 IsChain.none chain
