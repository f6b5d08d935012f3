-- Facts about a worklist: the counts of missing references, the waiting entries, and the ready indices.
use Rattle.std.proofs.Common.{◌≡◌, ◌≢◌, ℕ, zero, suc, ◌+◌, ◌<◌, ◌≤◌, List, [], ◌∷◌, ◌++◌, Bool, true, false, not, cond, eqb, length, get_or, set, take, refl, sym, ap, ◌∙◌, subst, arith, inl, inr, ◌⊎◌, ⊎_elim, length-set, get_or-set_same, get_or-set_other, ◌-◌}
use Rattle.std.specs.List.{All, Contains, count_by, sum}
use Rattle.std.proofs.lemmas.List.{get_or_past, length_push, get_or_push, get_or_append_left, take-append-le, take_at}
use Rattle.std.proofs.lemmas.List.Elements.{All-cons, All-nil, All-from_get_or, Contains-get_or}
use Rattle.std.proofs.lemmas.List.Sums.{sum_by-cons, sum_by-set, count_by_more_yes, count_by_more_no, sum_by-take-le}
use Rattle.std.proofs.lemmas.Bool.{false≢true, cases_lt, eq-eqb, lt-ltb, le-ltb}
use Rattle.std.proofs.lemmas.Bool.Decides.{eqb_tells}
use Rattle.bib_collections.specs.Graph.{refs_of, IsInRange, HasNoCycle, AreInOrder, IsTopologicalOrder}
use Rattle.bib_collections.specs.Work.{IsWork, AreWaiting, times, missing_at, is_among}
use Rattle.bib_collections.proofs.Order.{contains_from_count, count_push}
use Rattle.bib_collections.proofs.Walks.{HasWalk, below_from_edge, no_long_walk}
use Rattle.bib_text.proofs.ListFacts.{contains_more}

-- the number of references in a list whose indices aren't in the order
abbrev pub undone : List ℕ → List ℕ → ℕ
undone order refs = count_by (λ r. not (is_among order r)) refs

pub as_one : (b v : Bool) → b ≡ v → cond {A = ℕ} b 1 0 ≡ cond v 1 0
as_one b v e = ap (λ x. cond {A = ℕ} x 1 0) e

pub not_one : (b v : Bool) → b ≡ v → cond {A = ℕ} (not b) 1 0 ≡ cond (not v) 1 0
not_one b v e = ap (λ x. cond {A = ℕ} (not x) 1 0) e

pub zero_yes : (m : ℕ) → m ≡ 0 → cond {A = ℕ} (eqb m 0) 1 0 ≡ 1
zero_yes m e = as_one _ true (eq-eqb m 0 e)

pub zero_no : (m : ℕ) → 1 ≤ m → cond {A = ℕ} (eqb m 0) 1 0 ≡ 0
zero_no m h = elim (eqb_tells m 0) [ inl t ↦ absurd (omega (arith, t.1)) | inr t ↦ as_one _ false t.0 ]

pub among_yes : (p : ℕ) (xs : List ℕ) → 0 < times p xs → is_among xs p ≡ true
among_yes p xs h = elim (eqb_tells (times p xs) 0) [ inl t ↦ absurd (omega (arith, t.1)) | inr t ↦ rw t.0 refl ]

pub among_no : (p : ℕ) (xs : List ℕ) → times p xs ≡ 0 → is_among xs p ≡ false
among_no p xs h = rw (eq-eqb (times p xs) 0 h) refl

pub times_yes : (p : ℕ) (xs : List ℕ) → is_among xs p ≡ true → 0 < times p xs
times_yes p xs h =
    elim (eqb_tells (times p xs) 0)
    [ inl t ↦ absurd (false≢true (sym (among_no p xs t.1) ∙ h)) | inr t ↦ omega (arith, t.1) ]

-- after an index is appended, it is in the order, and for any other index nothing changes
pub among_decides : (order : List ℕ) (index p : ℕ)
    → ((p ≡ index) × (is_among (order ++ index ∷ []) p ≡ true))
    ⊎ ((p ≢ index) × (is_among (order ++ index ∷ []) p ≡ is_among order p))
among_decides order index p =
    elim (eqb_tells p index) [
      | inl t ↦ inl (
        t.1,
        among_yes p (order ++ index ∷ [])
            (omega (arith, count_push p index order, as_one _ true (eq-eqb index p (sym t.1)))),
      )
      | inr t ↦ elim (eqb_tells index p) [
        | inl u ↦ absurd (t.1 (sym u.1))
        | inr u ↦
            let same : times p (order ++ index ∷ []) ≡ times p order = omega (arith, count_push p index order, as_one _ false u.0) in
            inr (t.1, ap (λ n. not (eqb n 0)) same)
      ]
    ]

-- adding a new index to the order lowers the number of references in `xs` outside the order by how often `xs` has the
-- index
undone_less : (order : List ℕ) (p : ℕ) (xs : List ℕ) → is_among order p ≡ false → undone (order ++ p ∷ []) xs + times p xs ≡ undone order xs
undone_less order p [] h = refl
undone_less order p (x ∷ xs) h =
    let a = sum_by-cons (λ r. cond (not (is_among (order ++ p ∷ []) r)) 1 0) x xs in
    let b = sum_by-cons (λ r. cond (not (is_among order r)) 1 0) x xs in
    let c = sum_by-cons (λ r. cond (eqb r p) 1 0) x xs in
    let ih = undone_less order p xs h in
    elim (among_decides order p x) [
      | inl t ↦ let d : is_among order x ≡ false = subst (λ y. is_among order y ≡ false) (sym t.0) h in
          omega (arith, a, b, c, ih, not_one _ true t.1, not_one _ false d, as_one _ true (eq-eqb x p t.0))
      | inr t ↦ elim (eqb_tells x p) [
        | inl u ↦ absurd (t.0 u.1)
        | inr u ↦ omega (arith, a, b, c, ih, not_one _ _ t.1, as_one _ false u.0)
      ]
    ]

pub times_from_contains : (p : ℕ) (xs : List ℕ) → Contains xs p → 0 < times p xs
times_from_contains p [] h = absurd (omega (arith, h.1))
times_from_contains p (x ∷ xs) (zero, within, e) = omega (arith, sum_by-cons (λ r. cond (eqb r p) 1 0) x xs, as_one _ true (eq-eqb x p e))
times_from_contains p (x ∷ xs) (suc k, within, e) =
    omega (arith, sum_by-cons (λ r. cond (eqb r p) 1 0) x xs, times_from_contains p xs (k, omega arith, e))

-- the state of `release` after the first `i` waiting entries
pub record IsReleased (missing waiting ready : List ℕ) (i : ℕ) (missing' ready' : List ℕ) : Type 0 where
  pub same_length : length missing' ≡ length missing
  pub fewer : (p : ℕ) → p < length missing → missing_at missing' p + times p (take i waiting) ≡ missing_at missing p
  pub readier : (p : ℕ)
      → times p ready' + cond (eqb (missing_at missing p) 0) 1 0
      ≡ times p ready + cond (eqb (missing_at missing' p) 0) 1 0
  pub less : sum missing' + length ready' ≤ sum missing + length ready

-- the first `i + 1` elements have `p` as often as the first `i`, and once more if it is the element at `i`
pub times_more : (p i : ℕ) (xs : List ℕ) → i < length xs
    → times p (take (i + 1) xs) ≡ times p (take i xs) + cond (eqb (get_or xs i 0) p) 1 0
times_more p i xs within =
    elim (eqb_tells (get_or xs i 0) p) [
      | inl t ↦ omega (arith, count_by_more_yes (λ r. eqb r p) xs i 0 within t.0, as_one _ true t.0)
      | inr t ↦ omega (arith, count_by_more_no (λ r. eqb r p) xs i 0 within t.0, as_one _ false t.0)
    ]

-- an entry that waits at most as often as references are missing has a missing one before it is released
pub released_some : (missing waiting ready : List ℕ) (i : ℕ) (missing' ready' : List ℕ) → i < length waiting
    → get_or waiting i 0 < length missing → times (get_or waiting i 0) waiting ≤ missing_at missing (get_or waiting i 0)
    → IsReleased missing waiting ready i missing' ready' → 1 ≤ missing_at missing' (get_or waiting i 0)
released_some missing waiting ready i missing' ready' within below enough h =
    let w : ℕ = get_or waiting i 0 in
    omega (
      arith,
      h.fewer w below,
      enough,
      times_more w i waiting within,
      as_one _ true (eq-eqb w w refl),
      sum_by-take-le (λ r. cond (eqb r w) 1 0) waiting (i + 1),
    )

-- the next waiting entry is released
pub released_more : (missing waiting ready : List ℕ) (i : ℕ) (missing' ready' ready'' : List ℕ) → i < length waiting
    → get_or waiting i 0 < length missing → 1 ≤ missing_at missing' (get_or waiting i 0)
    → ((missing_at missing' (get_or waiting i 0) ≡ 1) × (ready'' ≡ ready' ++ get_or waiting i 0 ∷ []))
    ⊎ ((missing_at missing' (get_or waiting i 0) ≢ 1) × (ready'' ≡ ready'))
    → IsReleased missing waiting ready i missing' ready'
    → IsReleased missing waiting ready (i + 1)
    (set missing' (get_or waiting i 0) (missing_at missing' (get_or waiting i 0) - 1)) ready''
released_more missing waiting ready i missing' ready' ready'' within below some cases h =
    let w : ℕ = get_or waiting i 0 in
    let m : ℕ = missing_at missing' w in
    let w_in : w < length missing' = omega (arith, below, h.same_length) in
    record {
      same_length = length-set missing' w (m - 1) ∙ h.same_length;
      fewer = λ p p_in. elim (eqb_tells w p) [
        | inl t ↦ rw (← t.1)
            (omega (
              arith,
              h.fewer w below,
              times_more w i waiting within,
              as_one _ true (eq-eqb w w refl),
              get_or-set_same missing' w (m - 1) 1 w_in,
            ))
        | inr t ↦ omega (
          arith,
          h.fewer p p_in,
          times_more p i waiting within,
          as_one _ false t.0,
          get_or-set_other missing' w p (m - 1) 1 (λ e. t.1 (sym e)),
        )
      ];
      readier = λ p.
          let r = h.readier p in
          let c = count_push p w ready' in
          let same = get_or-set_same missing' w (m - 1) 1 w_in in
          elim (eqb_tells w p) [
            | inl t ↦ rw (← t.1) (⊎_elim
                (λ one.
                omega (
                  arith,
                  h.readier w,
                  count_push w w ready',
                  ap (times w) one.1,
                  as_one _ true (eq-eqb w w refl),
                  zero_yes (get_or (set missing' w (m - 1)) w 1) (omega (arith, same, one.0)),
                  zero_no m (omega (arith, some)),
                ))
                (λ two.
                let other : m ≢ 1 = two.0 in
                omega (
                  arith,
                  h.readier w,
                  ap (times w) two.1,
                  zero_no (get_or (set missing' w (m - 1)) w 1) (omega (arith, same, other, some)),
                  zero_no m (omega (arith, some)),
                ))
                cases)
            | inr t ↦
                let kept = get_or-set_other missing' w p (m - 1) 1 (λ e. t.1 (sym e)) in
                ⊎_elim
                (λ one. omega (arith, r, c, ap (times p) one.1, as_one _ false t.0, ap (λ x. cond {A = ℕ} (eqb x 0) 1 0) kept))
                (λ two. omega (arith, r, ap (times p) two.1, ap (λ x. cond {A = ℕ} (eqb x 0) 1 0) kept))
                cases
          ];
      less =
          let fall = sum_by-set (λ m. m) missing' w (m - 1) 1 w_in in
          ⊎_elim
          (λ one. omega (arith, h.less, fall, some, length_push ready' w, ap length one.1))
          (λ two. omega (arith, h.less, fall, some, ap length two.1))
          cases;
    }

-- if a reference is missing, some index in the list isn't in the order
some_undone : (order : List ℕ) (xs : List ℕ) → 0 < undone order xs → (r : ℕ) × Contains xs r × (is_among order r ≡ false)
some_undone order [] h = absurd (omega arith)
some_undone order (x ∷ xs) h =
    let e = sum_by-cons (λ r. cond (not (is_among order r)) 1 0) x xs in
    let go : (b : Bool) → is_among order x ≡ b
    → (r : ℕ) × Contains (x ∷ xs) r × (is_among order r ≡ false) = λ b.
    elim b as (λ v. is_among order x ≡ v → (r : ℕ) × Contains (x ∷ xs) r × (is_among order r ≡ false)) [
      | true ↦ λ t. let k = some_undone order xs (omega (arith, h, e, not_one _ true t)) in (k.0, contains_more x k.0 xs k.1, k.2)
      | false ↦ λ t. (x, (0, omega arith, refl), t)
    ] in
    go (is_among order x) refl

-- if no reference is missing, each index in the list is in the order
none_undone : (order : List ℕ) (xs : List ℕ) → undone order xs ≡ 0 → All (λ r. Contains order r) xs
none_undone order [] h = All-nil (λ r. Contains order r)
none_undone order (x ∷ xs) h =
    let e = sum_by-cons (λ r. cond (not (is_among order r)) 1 0) x xs in
    let go : (b : Bool) → is_among order x ≡ b
    → All (λ r. Contains order r) (x ∷ xs) = λ b.
    elim b as (λ v. is_among order x ≡ v → All (λ r. Contains order r) (x ∷ xs)) [
      | true ↦
          λ t.
          All-cons (λ r. Contains order r) x xs (contains_from_count x order (times_yes x order t))
          (none_undone order xs (omega (arith, h, e, not_one _ true t)))
      | false ↦ λ t. absurd (omega (arith, h, e, not_one _ false t))
    ] in
    go (is_among order x) refl

module _ (graph : List (List ℕ)) where
  -- in a graph in range, if no index is ready, walks of any length begin at each index with a missing reference
  stuck : IsInRange graph → (order missing : List ℕ) → IsWork graph order missing [] → (k e : ℕ) → e < length graph
      → 0 < missing_at missing e → HasWalk graph k e
  stuck in_range order missing h zero e within misses = tt
  stuck in_range order missing h (suc k) e within misses =
      let r = some_undone order (refs_of graph e) (omega (arith, misses, h.counts e within)) in
      let some : 0 < missing_at missing r.0 = elim (eqb_tells (missing_at missing r.0) 0) [
        | inl t ↦ absurd (false≢true (sym r.2 ∙ among_yes r.0 order (omega (arith, h.once r.0, as_one _ true t.0))))
        | inr t ↦ omega (arith, t.1)
      ] in
      (r.0, r.1, stuck in_range order missing h k r.0 (below_from_edge graph e r.0 in_range within r.1) some)

  -- if no index is ready, but one has a missing reference, a graph in range has a cycle
  pub cycle_from_stuck : IsInRange graph → (order missing : List ℕ) → IsWork graph order missing [] → (e : ℕ)
      → e < length graph → 0 < missing_at missing e → HasNoCycle graph → ⊥
  cycle_from_stuck in_range order missing h e within misses none =
      no_long_walk graph in_range none e within (stuck in_range order missing h (length graph) e within misses)

  -- `index` isn't in the order, and each index that it refers to is
  pub record IsNextInOrder (order : List ℕ) (missing : List ℕ) (index : ℕ) : Type 0 where
    pub within : index < length graph
    pub waits : is_among order index ≡ false
    pub refs_done : All (λ r. Contains order r) (refs_of graph index)

  -- a ready index can be the next of the order
  pub next_from_ready : (order : List ℕ) (missing new : List ℕ) (index : ℕ)
      → IsWork graph order missing (new ++ index ∷ []) → IsNextInOrder order missing index
  next_from_ready order missing new index h =
      let o = h.once index in
      let c = count_push index index new in
      let c' = as_one _ true (eq-eqb index index refl) in
      let zero_left : missing_at missing index ≡ 0 = elim (eqb_tells (missing_at missing index) 0) [
        | inl t ↦ t.1
        | inr t ↦ absurd (omega (arith, c, c', o, as_one _ false t.0))
      ] in
      let inside : index < length graph = elim (cases_lt index (length graph)) [
        | inl t ↦ t
        | inr t ↦ absurd (omega (arith, zero_left, get_or_past missing index 1 (omega (arith, t, h.missing_length))))
      ] in
      record {
        within = inside;
        waits = among_no index order (omega (arith, c, c', o, as_one _ true (eq-eqb (missing_at missing index) 0 zero_left)));
        refs_done = none_undone order (refs_of graph index) (omega (arith, zero_left, h.counts index inside));
      }

  -- each index has at least as many missing references as it has references to a ready index
  pub enough : (order missing new : List ℕ) (index : ℕ) (waiting : List (List ℕ))
      → IsWork graph order missing (new ++ index ∷ []) → AreWaiting graph waiting → (p : ℕ) → p < length missing
      → times p (refs_of waiting index) ≤ missing_at missing p
  enough order missing new index waiting h w p within =
      let t = next_from_ready order missing new index h in
      omega (arith, h.counts p (omega (arith, h.missing_length)), undone_less order index (refs_of graph p) t.waits, w.1 index p)

  -- the entries that wait for an index are entries of the graph
  pub waiting_below : (index : ℕ) (waiting : List (List ℕ)) → AreWaiting graph waiting → All (λ w. w < length graph) (refs_of waiting index)
  waiting_below index waiting w =
      All-from_get_or (λ x. x < length graph) (refs_of waiting index) 0
      (λ i h.
      let x : ℕ = get_or (refs_of waiting index) i 0 in
      elim (cases_lt x (length graph)) [
        | inl t ↦ t
        | inr t ↦
            let e = get_or_past graph x [] t in
            let m = times_from_contains x (refs_of waiting index) (Contains-get_or (refs_of waiting index) i 0 h) in
            let z = ap (times index) e in
            absurd (omega (arith, m, z, w.1 index x))
      ])

  pub waiting_in_range : (waiting : List (List ℕ)) → AreWaiting graph waiting → IsInRange waiting
  waiting_in_range waiting w =
      All-from_get_or (λ row. All (λ r. r < length waiting) row) waiting []
      (λ i h. subst (λ n. All (λ r. r < n) (refs_of waiting i)) (sym w.0) (waiting_below i waiting w))

  in_order_more : (order : List ℕ) (index : ℕ) → All (λ r. Contains order r) (refs_of graph index)
      → AreInOrder graph order → AreInOrder graph (order ++ index ∷ [])
  in_order_more order index following h k below = elim (cases_lt k (length order)) [
    | inl t ↦ rw (get_or_append_left order (index ∷ []) 0 k t, take-append-le k order (index ∷ []) (omega arith)) (h k t)
    | inr t ↦ let at_end : length order ≡ k = omega (arith, length_push order index) in
        rw (get_or_push order index 0 k at_end, take_at order (index ∷ []) k at_end) following
  ]

  -- the state after a ready index is added to the order and the entries that wait for it are released
  pub work_more : (order missing missing' new ready' : List ℕ) (index : ℕ) (waiting : List (List ℕ))
      → IsWork graph order missing (new ++ index ∷ []) → AreWaiting graph waiting → length missing' ≡ length missing
      → ((p : ℕ) → p < length missing → missing_at missing' p + times p (refs_of waiting index) ≡ missing_at missing p)
      →
      ((p : ℕ)
      → times p ready' + cond (eqb (missing_at missing p) 0) 1 0
      ≡ times p new + cond (eqb (missing_at missing' p) 0) 1 0)
      → IsWork graph (order ++ index ∷ []) missing' ready'
  work_more order missing missing' new ready' index waiting h w len' fewer readier =
      let t = next_from_ready order missing new index h in
      record {
        missing_length = len' ∙ h.missing_length;
        counts = λ p within.
            omega (
              arith,
              fewer p (omega (arith, within, h.missing_length)),
              h.counts p within,
              undone_less order index (refs_of graph p) t.waits,
              w.1 index p,
            );
        once = λ p. omega (arith, h.once p, count_push p index new, count_push p index order, readier p);
        in_order = in_order_more order index t.refs_done h.in_order;
      }

  -- if no index is ready and none has a missing reference, the order is a topological order
  pub whole_order : (order missing : List ℕ) → IsWork graph order missing []
      → ((p : ℕ) → p < length graph → missing_at missing p ≡ 0) → IsTopologicalOrder graph order
  whole_order order missing h none = record {
    once = λ p. elim (cases_lt p (length graph)) [
      | inl t ↦ rw (lt-ltb p (length graph) t) (omega (arith, h.once p, zero_yes (missing_at missing p) (none p t)))
      | inr t ↦ rw (le-ltb p (length graph) t)
          (omega (
            arith,
            h.once p,
            zero_no (missing_at missing p)
                (omega (arith, get_or_past missing p 1 (omega (arith, t, h.missing_length)))),
          ))
    ];
    in_order = h.in_order;
  }
