-- Marking all indices that an index leads to.
use Rattle.std.proofs.Common.{◌≡◌, ◌≢◌, ℕ, ◌+◌, ◌*◌, ◌<◌, ◌≤◌, List, [], ◌∷◌, ◌++◌, Bool, true, false, not, cond, length, get_or, set, replicate, refl, sym, ap, ◌∙◌, subst, arith, inl, inr, ◌⊎◌, ⊎_elim, length-set, get_or-set_other, get_or-set_same, below_more}
use Rattle.std.specs.List.{All, Contains, count_by}
use Rattle.std.proofs.lemmas.List.{get_or_past, length_push, get_or-replicate, length-replicate}
use Rattle.std.proofs.lemmas.List.Elements.{All-contains, All-weaker, Contains-push, Contains-append_left, Contains-push_cases, All-push}
use Rattle.std.proofs.lemmas.List.Sums.{sum_by-set}
use Rattle.std.proofs.lemmas.Bool.{false≢true, cases_lt}
use Rattle.std.proofs.lemmas.Bool.Decides.{eqb_tells}
use Rattle.bib_collections.specs.Graph.{refs_of, Leads, one, more}
use Rattle.bib_collections.specs.Search.{is_marked, IsClosed, IsSpread, AreSuspects}
use Rattle.bib_collections.proofs.Walks.{further}
use Rattle.bib_text.proofs.ListFacts.{cons_cases, contains_more}

-- the number of indices without a mark
abbrev pub unmarked : List Bool → ℕ
unmarked marks = count_by not marks

-- marking an index in range that has no mark lowers the number of indices without a mark by 1
pub unmarked_less : (marks : List Bool) (r : ℕ) → r < length marks → is_marked marks r ≡ false
    → unmarked (set marks r true) + 1 ≡ unmarked marks
unmarked_less marks r within h =
    let e = sum_by-set (λ b. cond (not b) 1 0) marks r true false within in omega (arith, e, ap (λ (b : Bool). cond {A = ℕ} (not b) 1 0) h)

-- after setting the mark of an index, this index has it, and any other index has its old one
pub set_decides : {b : Bool} (marks : List Bool) (index p : ℕ) → index < length marks
    → ((p ≡ index) × (is_marked (set marks index b) p ≡ b))
    ⊎ ((p ≢ index) × (is_marked (set marks index b) p ≡ is_marked marks p))
set_decides {b} marks index p within =
    elim (eqb_tells p index) [
      | inl t ↦ inl (t.1, rw t.1 (get_or-set_same marks index b false within))
      | inr t ↦ inr (t.1, get_or-set_other marks index p b false t.1)
    ]

-- a marked index stays marked if an index is marked
pub mark_kept : (marks : List Bool) (index r : ℕ) → index < length marks → is_marked marks r ≡ true
    → is_marked (set marks index true) r ≡ true
mark_kept marks index r within h = elim (set_decides {b = true} marks index r within) [ inl t ↦ t.1 | inr t ↦ t.1 ∙ h ]

-- at the start no index has a mark
pub none_marked : (n p : ℕ) → is_marked (replicate n false) p ≡ false
none_marked n p = elim (cases_lt p n) [
  | inl t ↦ get_or-replicate n p false false t
  | inr t ↦ get_or_past (replicate n false) p false (omega (arith, t, length-replicate n false))
]

pub none_closed : (graph : List (List ℕ)) (n : ℕ) → IsClosed graph (replicate n false)
none_closed graph n p d = absurd (false≢true (sym (none_marked n p) ∙ d))

-- `index` is `start` or has a mark
abbrev pub IsFound : List Bool → ℕ → ℕ → Type 0
IsFound marks start index = (index ≡ start) ⊎ (is_marked marks index ≡ true)

-- a found index is less than the number of indices if `start` is
pub found_below : (marks : List Bool) (n start p : ℕ) → length marks ≡ n → start < n → IsFound marks start p → p < n
found_below marks n start p len within (inl e) = omega arith
found_below marks n start p len within (inr h) =
    elim (cases_lt p (length marks)) [ inl t ↦ omega arith | inr t ↦ absurd (false≢true (sym (get_or_past marks p false t) ∙ h)) ]

module _ (graph : List (List ℕ)) (start : ℕ) (old : List Bool) where
  -- The state of a search from `start`: the new marks are on indices that `start` leads to. The references of each found index
  -- are marked, unless it still waits.
  pub record IsSearch (marks : List Bool) (waiting : List ℕ) : Type 0 where
    pub same_length : length marks ≡ length graph
    pub kept : (index : ℕ) → is_marked old index ≡ true → is_marked marks index ≡ true
    pub only : (index : ℕ) → is_marked marks index ≡ true → (is_marked old index ≡ true) ⊎ Leads graph start index
    pub closed : (index : ℕ) → IsFound marks start index
        → Contains waiting index ⊎ All (λ r. is_marked marks r ≡ true) (refs_of graph index)

  -- `index` is `start`, or it is marked and `start` leads to it
  abbrev pub IsAhead : List Bool → ℕ → Type 0
  IsAhead marks index = (index ≡ start) ⊎ ((is_marked marks index ≡ true) × Leads graph start index)

  -- an index that the search has reached is found
  pub ahead_found : (marks : List Bool) (p : ℕ) → IsAhead marks p → IsFound marks start p
  ahead_found marks p (inl e) = inl e
  ahead_found marks p (inr d) = inr d.0

  -- `start` leads to each reference of an index that the search has reached
  pub ahead_further : (marks : List Bool) (index r : ℕ) → IsAhead marks index → Contains (refs_of graph index) r → Leads graph start r
  ahead_further marks index r (inl e) edge = one (subst (λ x. Contains (refs_of graph x) r) e edge)
  ahead_further marks index r (inr d) edge = further d.1 edge

  ahead_kept : (marks : List Bool) (r p : ℕ) → r < length marks → IsAhead marks p → IsAhead (set marks r true) p
  ahead_kept marks r p within (inl e) = inl e
  ahead_kept marks r p within (inr d) = inr (mark_kept marks r p within d.0, d.1)

  -- the state of a search whose current index is `index`: its first `i` references are marked
  pub record IsLooking (index : ℕ) (refs : List ℕ) (i bound : ℕ) (marks : List Bool) (pending : List ℕ) : Type 0 where
    pub search : IsSearch marks (index ∷ pending)
    pub found : All (IsAhead marks) pending
    pub here : IsAhead marks index
    pub looked : (k : ℕ) → k < i → is_marked marks (get_or refs k 0) ≡ true
    pub less : 2 * unmarked marks + length pending ≤ bound

  -- at the start only `start` waits
  pub search_none : length old ≡ length graph → IsClosed graph old → IsSearch old (start ∷ [])
  search_none len closed = record {
    same_length = len;
    kept = λ p d. d;
    only = λ p d. inl d;
    closed = λ p f. ⊎_elim (λ e. inl (0, omega arith, sym e)) (λ d. inr (closed p d)) f;
  }

  -- a reference of the current index can be marked and added to the waiting indices
  search_more : (marks : List Bool) (pending : List ℕ) (index r : ℕ) → r < length graph
      → Contains (refs_of graph index) r → IsAhead marks index → IsSearch marks (index ∷ pending)
      → IsSearch (set marks r true) (index ∷ (pending ++ r ∷ []))
  search_more marks pending index r within edge ahead h =
      let r_in : r < length marks = omega (arith, h.same_length) in
      let kept : (x : ℕ) → is_marked marks x ≡ true → is_marked (set marks r true) x ≡ true = λ x d. mark_kept marks r x r_in d in
      let still : (p : ℕ) → Contains (index ∷ pending) p ⊎ All (λ x. is_marked marks x ≡ true) (refs_of graph p)
      → Contains (index ∷ (pending ++ r ∷ [])) p
      ⊎ All (λ x. is_marked (set marks r true) x ≡ true) (refs_of graph p)
      = λ p.
      ⊎_elim (λ w. inl (Contains-append_left (index ∷ pending) (r ∷ []) p w))
      (λ all.
      inr
      (All-weaker (λ x. is_marked marks x ≡ true) (λ x. is_marked (set marks r true) x ≡ true) kept
      (refs_of graph p) all)) in
      record {
        same_length = length-set marks r true ∙ h.same_length;
        kept = λ p d. kept p (h.kept p d);
        only = λ p d. elim (set_decides {b = true} marks r p r_in) [
          | inl t ↦ inr (subst (Leads graph start) (sym t.0) (ahead_further marks index r ahead edge))
          | inr t ↦ h.only p (sym t.1 ∙ d)
        ];
        closed = λ p f. elim (set_decides {b = true} marks r p r_in) [
          | inl t ↦ inl
              (subst (Contains (index ∷ (pending ++ r ∷ []))) (sym t.0)
              (contains_more index r (pending ++ r ∷ []) (Contains-push pending r)))
          | inr t ↦ still p (h.closed p (⊎_elim (λ e. inl e) (λ d. inr (sym t.1 ∙ d)) f))
        ];
      }

  -- the reference at `i` is in range and has no mark: it is marked and waits
  pub looking_more : (index : ℕ) (refs : List ℕ) (i bound : ℕ) (marks marks' : List Bool) (pending pending' : List ℕ)
      → get_or refs i 0 < length graph → Contains (refs_of graph index) (get_or refs i 0)
      → is_marked marks (get_or refs i 0) ≡ false → marks' ≡ set marks (get_or refs i 0) true
      → pending' ≡ pending ++ get_or refs i 0 ∷ [] → IsLooking index refs i bound marks pending
      → IsLooking index refs (i + 1) bound marks' pending'
  looking_more index refs i bound marks marks' pending pending' within edge new s p h =
      let r = get_or refs i 0 in
      let r_in : r < length marks = omega (arith, h.search.same_length) in
      let Ahead : ℕ → Type 0 = IsAhead (set marks r true) in
      rw (s, p) (record {
        search = search_more marks pending index r within edge h.here h.search;
        found =
            All-push Ahead pending r
            (All-weaker (IsAhead marks) Ahead (λ x f. ahead_kept marks r x r_in f) pending h.found)
            (inr (get_or-set_same marks r true false r_in, ahead_further marks index r h.here edge));
        here = ahead_kept marks r index r_in h.here;
        looked =
            below_more _ _ (λ k below. mark_kept marks r (get_or refs k 0) r_in (h.looked k below))
            (get_or-set_same marks r true false r_in);
        less = omega (arith, h.less, unmarked_less marks r r_in new, length_push pending r);
      })

  -- the reference at `i` already has a mark
  pub looking_on : (index : ℕ) (refs : List ℕ) (i bound : ℕ) (marks marks' : List Bool) (pending pending' : List ℕ)
      → is_marked marks (get_or refs i 0) ≡ true → marks' ≡ marks → pending' ≡ pending
      → IsLooking index refs i bound marks pending → IsLooking index refs (i + 1) bound marks' pending'
  looking_on index refs i bound marks marks' pending pending' seen s p h =
      rw (s, p) (record { search = h.search; found = h.found; here = h.here; looked = below_more _ _ h.looked seen; less = h.less })

  -- an index whose references are all marked need not wait
  pub search_next : (marks : List Bool) (pending : List ℕ) (index : ℕ)
      → All (λ x. is_marked marks x ≡ true) (refs_of graph index) → IsSearch marks (index ∷ pending)
      → IsSearch marks pending
  search_next marks pending index all h = record {
    same_length = h.same_length;
    kept = h.kept;
    only = h.only;
    closed = λ p f.
        ⊎_elim
        (λ w.
        ⊎_elim (λ e. inr (subst (λ x. All (λ y. is_marked marks y ≡ true) (refs_of graph x)) e all))
        (λ v. inl v) (cons_cases index p pending w)) (λ a. inr a) (h.closed p f);
  }

  -- the last waiting index can become the current one
  pub search_popped : (marks : List Bool) (before new : List ℕ) (index : ℕ) → before ≡ new ++ index ∷ []
      → IsSearch marks before → IsSearch marks (index ∷ new)
  search_popped marks before new index e h = record {
    same_length = h.same_length;
    kept = h.kept;
    only = h.only;
    closed = λ p f.
        ⊎_elim
        (λ w.
        inl
        (⊎_elim (λ v. contains_more index p new v) (λ same. (0, omega arith, same))
        (Contains-push_cases new index p (subst (λ l. Contains l p) e w)))) (λ a. inr a) (h.closed p f);
  }

  all_marked : (marks : List Bool) (p : ℕ) → IsSearch marks [] → IsFound marks start p
      → All (λ r. is_marked marks r ≡ true) (refs_of graph p)
  all_marked marks p h f = ⊎_elim (λ w. absurd (omega (arith, w.1))) (λ all. all) (h.closed p f)

  -- if no index waits, each index that `start` leads to is marked
  pub search_all : (marks : List Bool) → IsSearch marks [] → IsSpread graph start old marks
  search_all marks h = record {
    same_length = h.same_length;
    closed = λ p d. all_marked marks p h (inr d);
    kept = h.kept;
    found = all_marked marks start h (inl refl);
    only = h.only;
  }

module _ (graph : List (List ℕ)) where
  -- if each marked index refers only to marked ones, each index that an index with marked references leads to is marked
  closed_on : (marks : List Bool) (a b : ℕ) → IsClosed graph marks → Leads graph a b
      → All (λ r. is_marked marks r ≡ true) (refs_of graph a) → is_marked marks b ≡ true
  closed_on marks a b h (one e) all = All-contains (λ r. is_marked marks r ≡ true) (refs_of graph a) b all e
  closed_on marks a c h (more {b = b} e r) all =
      closed_on marks b c h r (h b (All-contains (λ r. is_marked marks r ≡ true) (refs_of graph a) b all e))

  -- a search from an index that leads to itself marks this index
  pub marked_on_cycle : (start : ℕ) (old new : List Bool) → IsSpread graph start old new → Leads graph start start
      → is_marked new start ≡ true
  marked_on_cycle start old new h r = closed_on new start start h.closed r h.found

  -- after the start of a search is marked too, each marked index still refers only to marked ones
  pub closed_more : (start : ℕ) (old new : List Bool) → start < length graph → IsSpread graph start old new
      → IsClosed graph (set new start true)
  closed_more start old new within h p d =
      let start_in : start < length new = omega (arith, h.same_length) in
      let kept : (q : ℕ) → All (λ x. is_marked new x ≡ true) (refs_of graph q)
      → All (λ x. is_marked (set new start true) x ≡ true) (refs_of graph q)
      = λ q all.
      All-weaker (λ x. is_marked new x ≡ true) (λ x. is_marked (set new start true) x ≡ true)
      (λ x m. mark_kept new start x start_in m) (refs_of graph q) all in
      elim (set_decides {b = true} new start p start_in) [
        | inl t ↦ kept p (subst (λ x. All (λ y. is_marked new y ≡ true) (refs_of graph x)) (sym t.0) h.found)
        | inr t ↦ kept p (h.closed p (sym t.1 ∙ d))
      ]

  -- `AreSuspects` stays true if the start of a search becomes a suspect exactly if the search marked it
  pub suspects_more : (start : ℕ) (suspects old new : List Bool) → start < length suspects
      → IsSpread graph start old new → AreSuspects graph suspects
      → AreSuspects graph (set suspects start (is_marked new start))
  suspects_more start suspects old new within h none p inside clear r =
      elim (set_decides {b = is_marked new start} suspects start p within) [
        | inl t ↦
            let no : is_marked new start ≡ false = sym t.1 ∙ clear in
            false≢true (sym no ∙ marked_on_cycle start old new h (subst (λ x. Leads graph x x) t.0 r))
        | inr t ↦ none p inside (sym t.1 ∙ clear) r
      ]

  -- if each index is a suspect, no other index leads to itself
  pub all_suspects : (n : ℕ) → length graph ≡ n → AreSuspects graph (replicate n true)
  all_suspects n len p inside clear r = false≢true (sym clear ∙ get_or-replicate n p true false (omega arith))
