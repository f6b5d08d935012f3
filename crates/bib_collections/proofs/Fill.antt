-- Filling the lists of waiting entries, and the list of indices that are ready at the start.
use Rattle.std.proofs.Common.{◌≡◌, ◌≢◌, ℕ, ◌+◌, ◌<◌, ◌≤◌, List, [], ◌∷◌, ◌++◌, true, false, cond, eqb, length, get_or, set, take, replicate, refl, sym, ap, ◌∙◌, subst, arith, inl, inr, ◌⊎◌, length-set, get_or-set_same, get_or-set_other}
use Rattle.std.proofs.lemmas.List.{get_or_past, get_or-replicate, length-replicate, take_all}
use Rattle.std.proofs.lemmas.Bool.{cases_lt, eq-eqb}
use Rattle.std.proofs.lemmas.Bool.Decides.{eqb_tells}
use Rattle.bib_collections.specs.Graph.{refs_of}
use Rattle.bib_collections.specs.Work.{AreWaiting, times, missing_at}
use Rattle.bib_collections.proofs.Order.{count_push}
use Rattle.bib_collections.proofs.Work.{as_one, times_more, zero_yes, zero_no}

-- `ready` has each index before `index` without missing references once, and no other index
pub record IsReadyTo (missing ready : List ℕ) (index : ℕ) : Type 0 where
  pub before : (p : ℕ) → p < index → times p ready ≡ cond (eqb (missing_at missing p) 0) 1 0
  pub after : (p : ℕ) → index ≤ p → times p ready ≡ 0

-- `IsReadyTo` up to the next index: `index` is appended if it has no missing references, and otherwise nothing changes
pub ready_step : (missing ready ready' : List ℕ) (index : ℕ)
    → ((missing_at missing index ≡ 0) × (ready' ≡ ready ++ index ∷ []))
    ⊎ ((1 ≤ missing_at missing index) × (ready' ≡ ready)) → IsReadyTo missing ready index
    → IsReadyTo missing ready' (index + 1)
ready_step missing ready ready' index (inl (z, e)) h = record {
  before = λ p below. elim (eqb_tells index p) [
    | inl t ↦ rw (← t.1)
        (omega (
          arith,
          ap (times index) e,
          count_push index index ready,
          h.after index (omega arith),
          as_one _ true (eq-eqb index index refl),
          zero_yes (missing_at missing index) z,
        ))
    | inr t ↦ let lt : p < index =
        omega (arith, t.1) in omega (arith, ap (times p) e, count_push p index ready, h.before p lt, as_one _ false t.0)
  ];
  after = λ p above. elim (eqb_tells index p) [
    | inl t ↦ absurd (omega (arith, t.1))
    | inr t ↦ omega (arith, ap (times p) e, count_push p index ready, h.after p (omega arith), as_one _ false t.0)
  ];
}
ready_step missing ready ready' index (inr (z, e)) h = record {
  before = λ p below. elim (eqb_tells index p) [
    | inl t ↦ rw (← t.1) (omega (arith, ap (times index) e, h.after index (omega arith), zero_no (missing_at missing index) z))
    | inr t ↦ let lt : p < index = omega (arith, t.1) in omega (arith, ap (times p) e, h.before p lt)
  ];
  after = λ p above. omega (arith, ap (times p) e, h.after p (omega arith));
}

-- after the last index, each index without missing references is once in `ready`, and any other isn't in it
pub ready_end : (missing ready : List ℕ) → IsReadyTo missing ready (length missing) → (p : ℕ)
    → times p ready ≡ cond (eqb (missing_at missing p) 0) 1 0
ready_end missing ready h p = elim (cases_lt p (length missing)) [
  | inl t ↦ h.before p t
  | inr t ↦ let past = get_or_past missing p 1 t in omega (arith, h.after p t, zero_no (missing_at missing p) (omega (arith, past)))
]

-- each row of a graph of empty rows is empty, and so is each past its end
pub empty_rows : (n p : ℕ) → refs_of (replicate n []) p ≡ []
empty_rows n p = elim (cases_lt p n) [
  | inl t ↦ get_or-replicate n p [] [] t
  | inr t ↦ get_or_past (replicate n []) p [] (omega (arith, t, length-replicate {A = List ℕ} n []))
]

-- `waiting` has, reversed, the references of the entries before `entry` and the first `i` references of `entry`, and no others
pub record IsFilled (graph waiting : List (List ℕ)) (entry i : ℕ) : Type 0 where
  pub same_length : length waiting ≡ length graph
  pub before : (index e : ℕ) → e < entry → times e (refs_of waiting index) ≡ times index (refs_of graph e)
  pub here : (index : ℕ) → times entry (refs_of waiting index) ≡ times index (take i (refs_of graph entry))
  pub after : (index e : ℕ) → entry < e → times e (refs_of waiting index) ≡ 0

module _ (graph : List (List ℕ)) where
  -- if all rows are empty, no reference is in them yet
  pub filled_none : (waiting : List (List ℕ)) → length waiting ≡ length graph
      → ((index : ℕ) → refs_of waiting index ≡ []) → IsFilled graph waiting 0 0
  filled_none waiting len none = record {
    same_length = len;
    before = λ index e below. absurd (omega arith);
    here = λ index. ap (times 0) (none index);
    after = λ index e above. ap (times e) (none index);
  }

  -- after all references of an entry, the next entry follows, with none of its references
  pub filled_next : (waiting : List (List ℕ)) (entry i : ℕ) → length (refs_of graph entry) ≤ i
      → IsFilled graph waiting entry i → IsFilled graph waiting (entry + 1) 0
  filled_next waiting entry i all h = record {
    same_length = h.same_length;
    before = λ index e below. elim (eqb_tells entry e) [
      | inl t ↦ rw (← t.1) (h.here index ∙ ap (times index) (take_all i (refs_of graph entry) all))
      | inr t ↦ h.before index e (omega (arith, t.1))
    ];
    here = λ index. h.after index (entry + 1) (omega arith);
    after = λ index e above. h.after index e (omega arith);
  }

  -- after the last entry, the rows have for each index the entries that wait for it
  pub filled_all : (waiting : List (List ℕ)) (entry : ℕ) → length graph ≤ entry → IsFilled graph waiting entry 0 → AreWaiting graph waiting
  filled_all waiting entry all h = (
    h.same_length,
    λ index e. elim (cases_lt e entry) [
      | inl t ↦ h.before index e t
      | inr t ↦
          let none = ap (times index) (get_or_past graph e [] (omega (arith, t))) in
          elim (eqb_tells entry e) [
            | inl u ↦ subst (λ x. times x (refs_of waiting index) ≡ 0) u.1 (h.here index) ∙ sym none
            | inr u ↦ h.after index e (omega (arith, t, u.1)) ∙ sym none
          ]
    ],
  )

  -- `entry` is appended to the row of its next reference `r`
  pub filled_more : (waiting : List (List ℕ)) (entry i r : ℕ) → i < length (refs_of graph entry)
      → r ≡ get_or (refs_of graph entry) i 0 → r < length waiting → IsFilled graph waiting entry i
      → IsFilled graph (set waiting r (refs_of waiting r ++ entry ∷ [])) entry (i + 1)
  filled_more waiting entry i r within at below h =
      let new : List (List ℕ) = set waiting r (refs_of waiting r ++ entry ∷ []) in
      let adds : (index e : ℕ)
      → times e (refs_of new index)
      ≡ times e (refs_of waiting index) + cond (eqb r index) (cond (eqb entry e) 1 0) 0
      = λ index e. elim (eqb_tells r index) [
        | inl t ↦ rw (← t.1)
            (rw (get_or-set_same waiting r (refs_of waiting r ++ entry ∷ []) [] below, eq-eqb r r refl)
            (count_push e entry (refs_of waiting r)))
        | inr t ↦ rw (get_or-set_other waiting r index (refs_of waiting r ++ entry ∷ []) [] (λ u. t.1 (sym u)), t.0) (omega arith)
      ] in
      let no : (index e : ℕ) → (entry ≢ e) → cond {A = ℕ} (eqb r index) (cond (eqb entry e) 1 0) 0 ≡ 0
      = λ index e ne. elim (eqb_tells entry e) [
        | inl t ↦ absurd (ne t.1)
        | inr t ↦ rw t.0 (elim (eqb_tells r index) [ inl u ↦ rw u.0 refl | inr u ↦ rw u.0 refl ])
      ] in
      record {
        same_length = length-set waiting r (refs_of waiting r ++ entry ∷ []) ∙ h.same_length;
        before = λ index e lt. omega (arith, adds index e, no index e (λ u. omega (arith, u)), h.before index e lt);
        here = λ index.
            let a = rw (eq-eqb entry entry refl) at (adds index entry) in
            let b = rw (← at) at (times_more index i (refs_of graph entry) within) in
            omega (arith, a, b, h.here index);
        after = λ index e gt. omega (arith, adds index e, no index e (λ u. omega (arith, u)), h.after index e gt);
      }
