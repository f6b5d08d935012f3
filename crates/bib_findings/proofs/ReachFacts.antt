-- Marks on the indices that are reached from others, and graphs with their references reversed.
use Rattle.std.proofs.Common.{◌≡◌, ◌≢◌, ◌↔◌, ◌⊎◌, ◌<◌, ◌+◌, ℕ, zero, suc, Bool, true, false, cond, List, [], ◌∷◌, ◌++◌, length, get_or, set, take, replicate, refl, sym, ap, ◌∙◌, subst, arith, inl, inr, ⊎_elim, length-set, get_or-set_same, get_or-set_other}
use Rattle.std.specs.List.{All, Contains}
use Rattle.std.proofs.lemmas.Bool.{cases_lt, false≢true}
use Rattle.std.proofs.lemmas.Bool.Decides.{eqb_tells}
use Rattle.std.proofs.lemmas.List.{get_or_past, length-replicate, take_more}
use Rattle.std.proofs.lemmas.List.Elements.{All-append, All-from_get_or, All-get_or, Contains-append_left, Contains-append_right, Contains-get_or, Contains-push, Contains-push_cases}
use Rattle.bib_text.proofs.ListFacts.{contains_nothing}
use Rattle.bib_collections.specs.Graph.{Graph, IsInRange, refs_of}
use Rattle.bib_queries.specs.Needed.{AreMarks, IsMarked}
use Rattle.bib_queries.proofs.MarkFacts.{mark_kept, none_marked, set_decides}
use Rattle.bib_findings.specs.Reaching.{IsReversed, IsReached}

-- ---- marking the indices that are reached

-- the steps that are left: for each index without a mark, 1 and the number of its references
abbrev pub steps_left : List Bool → Graph → ℕ
steps_left [] graph = 0
steps_left (mark ∷ marks) [] = 0
steps_left (mark ∷ marks) (row ∷ graph) = cond mark 0 (suc (length row)) + steps_left marks graph

-- marking an index without a mark lowers the steps that are left by 1 and the number of its references
pub steps_less : (marks : List Bool) (graph : Graph) (index : ℕ) → length marks ≡ length graph → index < length marks
    → get_or marks index false ≡ false
    → steps_left (set marks index true) graph + suc (length (refs_of graph index)) ≡ steps_left marks graph
steps_less [] graph index len below none = absurd (omega (arith, below))
steps_less (mark ∷ marks) [] index len below none = absurd (omega (arith, len))
steps_less (true ∷ marks) (row ∷ graph) zero len below none = absurd (false≢true (sym none))
steps_less (false ∷ marks) (row ∷ graph) zero len below none = omega arith
steps_less (true ∷ marks) (row ∷ graph) (suc index) len below none =
    omega (arith, steps_less marks graph index (omega (arith, len)) (omega (arith, below)) none)
steps_less (false ∷ marks) (row ∷ graph) (suc index) len below none =
    omega (arith, steps_less marks graph index (omega (arith, len)) (omega (arith, below)) none)

module _ (graph : Graph) (starts : List ℕ) where
  -- whether an index is in range and is reached
  abbrev pub IsReachedWithin : ℕ → Type 0
  IsReachedWithin index = (index < length graph) × IsReached graph starts index

  -- the state of the search: marked and pending indices are reached. The starts and the references of marked indices are marked or pending
  pub record IsSearch (marks : List Bool) (pending : List ℕ) : Type 0 where
    pub same_length : length marks ≡ length graph
    pub sound : (index : ℕ) → IsMarked marks index → IsReached graph starts index
    pub waits : All IsReachedWithin pending
    pub begun : (index : ℕ) → Contains starts index → IsMarked marks index ⊎ Contains pending index
    pub closed : (from index : ℕ) → IsMarked marks from → Contains (refs_of graph from) index
        → IsMarked marks index ⊎ Contains pending index

  -- if all starts are indices of the graph, a search begins without marks and with the starts pending
  pub search_first : All (λ index. index < length graph) starts → IsSearch (replicate (length graph) false) starts
  search_first below = record {
    same_length = length-replicate (length graph) false;
    sound = λ index is. absurd (none_marked (length graph) index is);
    waits = All-from_get_or IsReachedWithin starts 0
        (λ k within. (
          All-get_or (λ index. index < length graph) starts k 0 within below,
          IsReached.start (Contains-get_or starts k 0 within),
        ));
    begun = λ index held. inr held;
    closed = λ from index is edge. absurd (none_marked (length graph) from is);
  }

  -- the last pending index needs no step if it has a mark
  pub search_on : (marks : List Bool) (before pending : List ℕ) (index : ℕ) → before ≡ pending ++ index ∷ []
      → All IsReachedWithin pending → IsMarked marks index → IsSearch marks before → IsSearch marks pending
  search_on marks before pending index popped waits marked h = record {
    same_length = h.same_length;
    sound = h.sound;
    waits = waits;
    begun = λ i held. left i (h.begun i held);
    closed = λ from i is edge. left i (h.closed from i is edge);
  } where
    left : (i : ℕ) → IsMarked marks i ⊎ Contains before i → IsMarked marks i ⊎ Contains pending i
    left i (inl is) = inl is
    left i (inr waited) =
        ⊎_elim (λ c. inr c) (λ e. inl (subst (IsMarked marks) e marked))
        (Contains-push_cases pending index i (subst (λ l. Contains l i) popped waited))

  -- the last pending index gets a mark, and its references become pending
  pub search_more : (marks : List Bool) (before pending : List ℕ) (index : ℕ) → before ≡ pending ++ index ∷ [] → IsInRange graph
      → All IsReachedWithin pending → IsReachedWithin index → IsSearch marks before
      → IsSearch (set marks index true) (pending ++ refs_of graph index)
  search_more marks before pending index popped in_range waits here h = record {
    same_length = length-set marks index true ∙ h.same_length;
    sound = λ i is. elim (set_decides marks index i within) [
      | inl t ↦ subst (IsReached graph starts) (sym t.0) here.1
      | inr t ↦ h.sound i (sym t.1 ∙ is)
    ];
    waits = All-append IsReachedWithin pending row waits
        (All-from_get_or IsReachedWithin row 0
        (λ k below. (
          All-get_or (λ r. r < length graph) row k 0 below
              (All-get_or (λ refs. All (λ r. r < length graph) refs) graph index [] here.0 in_range),
          IsReached.next here.1 (Contains-get_or row k 0 below),
        )));
    begun = λ i held. left i (h.begun i held);
    closed = λ from i is edge. elim (set_decides marks index from within) [
      | inl t ↦ inr (Contains-append_right pending row i (subst (λ f. Contains (refs_of graph f) i) t.0 edge))
      | inr t ↦ left i (h.closed from i (sym t.1 ∙ is) edge)
    ];
  } where
    row : List ℕ
    row = refs_of graph index

    within : index < length marks
    within = omega (arith, h.same_length, here.0)

    left : (i : ℕ) → IsMarked marks i ⊎ Contains before i → IsMarked (set marks index true) i ⊎ Contains (pending ++ row) i
    left i (inl is) = inl (mark_kept marks index i within is)
    left i (inr waited) =
        ⊎_elim (λ c. inr (Contains-append_left pending row i c))
        (λ e. inl (subst (IsMarked (set marks index true)) e (get_or-set_same marks index true false within)))
        (Contains-push_cases pending index i (subst (λ l. Contains l i) popped waited))

  complete : (marks : List Bool) (index : ℕ) → IsSearch marks [] → IsReached graph starts index → IsMarked marks index
  complete marks index h (IsReached.start held) = ⊎_elim (λ is. is) (λ c. absurd (contains_nothing c)) (h.begun index held)
  complete marks index h (IsReached.next {from = from} before edge) =
      ⊎_elim (λ is. is) (λ c. absurd (contains_nothing c)) (h.closed from index (complete marks from h before) edge)

  -- if nothing is pending, exactly the indices that are reached have marks
  pub search_all : (marks : List Bool) → IsSearch marks [] → AreMarks (IsReached graph starts) (length graph) marks
  search_all marks h = record {
    same_length = h.same_length;
    each = λ index below. (λ is. h.sound index is, λ reached. complete marks index h reached);
  }

-- ---- reversing references

-- a row that is appended to a graph has the references of the next index
refs_push : (graph : Graph) (row : List ℕ) (child parent : ℕ)
    → Contains (refs_of (graph ++ row ∷ []) child) parent ↔
    (Contains (refs_of graph child) parent ⊎ ((child ≡ length graph) × Contains row parent))
refs_push [] row zero parent = (λ h. inr (refl, h), λ h. ⊎_elim (λ no. absurd (contains_nothing no)) (λ x. x.1) h)
refs_push [] row (suc child) parent = (
  λ h. absurd (contains_nothing h),
  λ h. ⊎_elim (λ no. absurd (contains_nothing no)) (λ x. absurd (omega (arith, x.0))) h,
)
refs_push (first ∷ graph) row zero parent = (λ h. inl h, λ h. ⊎_elim (λ x. x) (λ x. absurd (omega (arith, x.0))) h)
refs_push (first ∷ graph) row (suc child) parent =
    let so = refs_push graph row child parent in (
      λ h. ⊎_elim (λ x. inl x) (λ x. inr (omega (arith, x.0), x.1)) (so.0 h),
      λ h. so.1 (⊎_elim (λ x. inl x) (λ x. inr (omega (arith, x.0), x.1)) h),
    )

-- whether `lists` has for each index those that refer to it
abbrev pub HasReferrers : Graph → Graph → Type 0
HasReferrers graph lists = (parent child : ℕ) → Contains (refs_of lists parent) child ↔ Contains (refs_of graph child) parent

-- whether `child` was added to the lists of these parents
abbrev pub IsAdded : Graph → Graph → List ℕ → ℕ → Type 0
IsAdded old new parents child =
    (parent one : ℕ) → Contains (refs_of new parent) one ↔ (Contains (refs_of old parent) one ⊎ ((one ≡ child) × Contains parents parent))

-- adding the next index to the lists of its references reverses the references of one index more
pub reversed_push : (graph lists lists' : Graph) (row : List ℕ) (index : ℕ) → index ≡ length graph → HasReferrers graph lists
    → IsAdded lists lists' row index → HasReferrers (graph ++ row ∷ []) lists'
reversed_push graph lists lists' row index is so more parent child =
    let push = refs_push graph row child parent in (
      λ h. push.1 (⊎_elim (λ x. inl ((so parent child).0 x)) (λ x. inr (x.0 ∙ is, x.1)) ((more parent child).0 h)),
      λ h. (more parent child).1 (⊎_elim (λ x. inl ((so parent child).1 x)) (λ x. inr (x.0 ∙ sym is, x.1)) (push.0 h)),
    )

-- an index with a reference is in range
within_graph : (graph : Graph) (index reference : ℕ) → Contains (refs_of graph index) reference → index < length graph
within_graph graph index reference edge = elim (cases_lt index (length graph)) [
  | inl t ↦ t
  | inr t ↦ absurd (contains_nothing (subst (λ l. Contains l reference) (get_or_past graph index [] (omega (arith, t))) edge))
]

-- the references of a reversed graph are in range
pub reversed_in_range : (graph reversed : Graph) → IsReversed graph reversed → IsInRange reversed
reversed_in_range graph reversed is =
    All-from_get_or (λ refs. All (λ r. r < length reversed) refs) reversed []
    (λ parent below. All-from_get_or (λ r. r < length reversed) (refs_of reversed parent) 0
    (λ k within.
    let child : ℕ = get_or (refs_of reversed parent) k 0 in
    let edge = (is.each parent child).0 (Contains-get_or (refs_of reversed parent) k 0 within) in
    omega (arith, within_graph graph child parent edge, is.same_length)))

-- after a row is replaced, an index has this row or its old one
refs_set : (lists : Graph) (at p : ℕ) (row : List ℕ) → at < length lists
    → ((p ≡ at) × (refs_of (set lists at row) p ≡ row)) ⊎ ((p ≢ at) × (refs_of (set lists at row) p ≡ refs_of lists p))
refs_set lists at p row within = elim (eqb_tells p at) [
  | inl t ↦ inl (t.1, ap (refs_of (set lists at row)) t.1 ∙ get_or-set_same lists at row [] within)
  | inr t ↦ inr (t.1, get_or-set_other lists at p row [] t.1)
]

-- adding `child` to the list of the next parent adds it to the lists of one parent more
pub added_next : (old now : Graph) (parents : List ℕ) (k child : ℕ) → k < length parents → get_or parents k 0 < length now
    → IsAdded old now (take k parents) child
    → IsAdded old (set now (get_or parents k 0) (refs_of now (get_or parents k 0) ++ child ∷ [])) (take (k + 1) parents) child
added_next old now parents k child below within so parent one =
    subst (λ l. Contains (refs_of new parent) one ↔ (Contains (refs_of old parent) one ⊎ ((one ≡ child) × Contains l parent)))
    (sym (take_more parents k 0 below)) (to, from) where
      at : ℕ
      at = get_or parents k 0

      new : Graph
      new = set now at (refs_of now at ++ child ∷ [])

      Held : Type 0
      Held = Contains (refs_of old parent) one ⊎ ((one ≡ child) × Contains (take k parents ++ at ∷ []) parent)

      earlier : Contains (refs_of now parent) one → Held
      earlier h =
          ⊎_elim (λ o. inl o) (λ x. inr (x.0, Contains-append_left (take k parents) (at ∷ []) parent x.1)) ((so parent one).0 h)

      to : Contains (refs_of new parent) one → Held
      to h = elim (refs_set now at parent (refs_of now at ++ child ∷ []) within) [
        | inl t ↦ ⊎_elim (λ c. earlier (subst (λ p. Contains (refs_of now p) one) (sym t.0) c))
            (λ e. inr (sym e, subst (Contains (take k parents ++ at ∷ [])) (sym t.0) (Contains-push (take k parents) at)))
            (Contains-push_cases (refs_of now at) child one (subst (λ l. Contains l one) t.1 h))
        | inr t ↦ earlier (subst (λ l. Contains l one) t.1 h)
      ]

      kept : Contains (refs_of now parent) one → Contains (refs_of new parent) one
      kept h = elim (refs_set now at parent (refs_of now at ++ child ∷ []) within) [
        | inl t ↦ subst (λ l. Contains l one) (sym t.1)
            (Contains-append_left (refs_of now at) (child ∷ []) one (subst (λ p. Contains (refs_of now p) one) t.0 h))
        | inr t ↦ subst (λ l. Contains l one) (sym t.1) h
      ]

      added : one ≡ child → at ≡ parent → Contains (refs_of new parent) one
      added e p =
          subst (λ x. Contains (refs_of new x) one) p
          (subst (λ l. Contains l one) (sym (get_or-set_same now at (refs_of now at ++ child ∷ []) [] within))
          (subst (Contains (refs_of now at ++ child ∷ [])) (sym e) (Contains-push (refs_of now at) child)))

      from : Held → Contains (refs_of new parent) one
      from (inl o) = kept ((so parent one).1 (inl o))
      from (inr (e, c)) =
          ⊎_elim (λ b. kept ((so parent one).1 (inr (e, b)))) (λ p. added e p) (Contains-push_cases (take k parents) at parent c)
