-- Facts about roots, the indices that lead back to them, and marks on cycles.
use Rattle.std.proofs.Common.{◌≡◌, ℕ, ◌+◌, ◌<◌, List, [], ◌∷◌, ◌++◌, Bool, true, false, length, get_or, set, replicate, refl, sym, ap, ◌∙◌, subst, arith, inl, inr, ◌⊎◌, ⊎_elim, Option, Some, None, ◌↔◌, eqb, length-set, get_or-set_other, get_or-set_same}
use Rattle.std.specs.List.{All, Contains}
use Rattle.std.specs.Option.{option_eq}
use Rattle.std.proofs.lemmas.List.{get_or_past, get_or-replicate, length-replicate}
use Rattle.std.proofs.lemmas.List.Elements.{All-contains, All-from_get_or, Contains-get_or, Contains-push_cases}
use Rattle.std.proofs.lemmas.Bool.{false≢true, cases_lt, eqb-true}
use Rattle.std.proofs.lemmas.Bool.Decides.{eqb_tells}
use Rattle.bib_collections.specs.Graph.{refs_of, Leads, one, more, AreOnCycles, IsInRange}
use Rattle.bib_collections.specs.Search.{is_marked, root_at, IsSpread, AreReached, AreSuspects, AreRoots, AreBackInside, AllLeadToThemselves}
use Rattle.bib_collections.proofs.Search.{set_decides, none_marked}
use Rattle.bib_collections.proofs.Walks.{further}
use Rattle.bib_text.proofs.ListFacts.{some_same}

-- roots that compare as equal are equal
pub same_root : (a b : Option ℕ) → option_eq eqb a b ≡ true → a ≡ b
same_root None None is = refl
same_root None (Some b) is = cc
same_root (Some a) None is = cc
same_root (Some a) (Some b) is = ap Some (eqb-true a b is)

no_root : (n index : ℕ) → root_at (replicate n None) index ≡ None
no_root n index = elim (cases_lt index n) [
  | inl t ↦ get_or-replicate n index None None t
  | inr t ↦ get_or_past (replicate n None) index None (omega (arith, t, length-replicate {A = Option ℕ} n None))
]

-- `Leads` is transitive
joined : {graph : List (List ℕ)} {a b c : ℕ} → Leads graph a b → Leads graph b c → Leads graph a c
joined (one e) r = more e r
joined (more e s) r = more e (joined s r)

module _ (graph : List (List ℕ)) where
  -- ---- roots

  -- before any search no index has a root, so each root leads to its index
  pub no_roots : (n : ℕ) → AreRoots graph (replicate n None)
  no_roots n index root is = absurd (clash (sym (no_root n index) ∙ is)) where
    clash : None ≡ Some root → ⊥
    clash e = cc

  -- `AreRoots` still holds after `root` becomes the root of some indices that it leads to
  pub roots_set : (root : ℕ) (reached : List ℕ) (old new : List (Option ℕ)) → AreReached graph root reached
      →
      ((index : ℕ)
      → (root_at new index ≡ root_at old index) ⊎ ((root_at new index ≡ Some root) × Contains reached index))
      → AreRoots graph old → AreRoots graph new
  roots_set root reached old new found sets h index other is = ⊎_elim
      (λ same. h index other (sym same ∙ is))
      (λ t.
      subst (λ r. Leads graph r index) (some_same (sym t.0 ∙ is))
      (All-contains (λ r. (r < length graph) × Leads graph root r) reached index found t.1).1)
      (sets index)

  -- ---- reversed references

  -- an entry with references is in the graph
  pub entry_below : (index entry : ℕ) → Contains (refs_of graph entry) index → entry < length graph
  entry_below index entry c = elim (cases_lt entry (length graph)) [
    | inl t ↦ t
    | inr t ↦ let c' = subst (λ l. Contains l index) (get_or_past graph entry [] t) c in absurd (omega (arith, c'.1))
  ]

  -- if each reference of `inside` is a reversed reference of the graph, the references of `inside` are in its range
  turned_in_range : (inside : List (List ℕ)) → length inside ≡ length graph
      → ((index entry : ℕ) → Contains (refs_of inside index) entry → Contains (refs_of graph entry) index) → IsInRange inside
  turned_in_range inside len turned = All-from_get_or (λ row. All (λ r. r < length inside) row) inside []
      (λ i below. All-from_get_or (λ r. r < length inside) (refs_of inside i) 0
      (λ k within. subst (λ n. get_or (refs_of inside i) k 0 < n) (sym len)
      (entry_below i (get_or (refs_of inside i) k 0)
      (turned i (get_or (refs_of inside i) k 0) (Contains-get_or (refs_of inside i) k 0 within)))))

  -- empty rows have no reversed references
  pub inside_none : (roots : List (Option ℕ)) (inside : List (List ℕ)) → length inside ≡ length graph
      → ((index : ℕ) → refs_of inside index ≡ []) → AreBackInside graph roots inside
  inside_none roots inside len none = record {
    same_length = len;
    in_range = turned_in_range inside len (λ index entry c. absurd (nothing index entry c));
    turned = λ index entry c. absurd (nothing index entry c);
  } where
    nothing : (index entry : ℕ) → Contains (refs_of inside index) entry → ⊥
    nothing index entry c = let c' = subst (λ l. Contains l entry) (none index) c in omega (arith, c'.1)

  -- `IsTurnedInside` stays true if a reference between indices with the same root, or without a root, is reversed and appended
  pub inside_more : (roots : List (Option ℕ)) (inside : List (List ℕ)) (r entry : ℕ) → r < length inside
      → Contains (refs_of graph entry) r → root_at roots r ≡ root_at roots entry → AreBackInside graph roots inside
      → AreBackInside graph roots (set inside r (refs_of inside r ++ entry ∷ []))
  inside_more roots inside r entry within edge same h = record {
    same_length = len;
    in_range = turned_in_range (set inside r (refs_of inside r ++ entry ∷ [])) len (λ index e c. (turned index e c).0);
    turned = turned;
  } where
    len : length (set inside r (refs_of inside r ++ entry ∷ [])) ≡ length graph
    len = length-set inside r (refs_of inside r ++ entry ∷ []) ∙ h.same_length

    turned : (index e : ℕ) → Contains (refs_of (set inside r (refs_of inside r ++ entry ∷ [])) index) e
        → Contains (refs_of graph e) index × (root_at roots index ≡ root_at roots e)
    turned index e c = elim (eqb_tells index r) [
      | inl t ↦ ⊎_elim
          (λ was. h.turned index e (subst (λ x. Contains (refs_of inside x) e) (sym t.1) was))
          (λ new.
          subst (λ x. Contains (refs_of graph x) index × (root_at roots index ≡ root_at roots x)) new
          (subst (λ x. Contains (refs_of graph entry) x × (root_at roots x ≡ root_at roots entry)) (sym t.1)
          (edge, same)))
          (Contains-push_cases (refs_of inside r) entry e
          (subst (λ l. Contains l e)
          (ap (refs_of (set inside r (refs_of inside r ++ entry ∷ []))) t.1
          ∙ get_or-set_same inside r (refs_of inside r ++ entry ∷ []) [] within) c))
      | inr t ↦ h.turned index e (subst (λ l. Contains l e) (get_or-set_other inside r index (refs_of inside r ++ entry ∷ []) [] t.1) c)
    ]

  module _ (roots : List (Option ℕ)) (inside : List (List ℕ)) (h : AreBackInside graph roots inside) where
    -- if an index leads to another in `inside`, the other leads to it in `graph`, and both have the same root or none
    turned_leads : (a b : ℕ) → Leads inside a b → Leads graph b a × (root_at roots a ≡ root_at roots b)
    turned_leads a b (one e) = let t = h.turned a b e in (one t.0, t.1)
    turned_leads a c (more {b = b} e r) =
        let t = h.turned a b e in
        let rest = turned_leads b c r in
        (further rest.0 t.0, t.1 ∙ rest.1)

    -- `AllLeadToThemselves` stays true after a search in `inside` from an index that is its own root
    pub returning_more : (root : ℕ) (old new : List Bool) → AreRoots graph roots → root_at roots root ≡ Some root
        → IsSpread inside root old new → AllLeadToThemselves graph old → AllLeadToThemselves graph new
    returning_more root old new are is spread before index marked = ⊎_elim
        (λ was. before index was)
        (λ leads. let t = turned_leads root index leads in joined t.0 (are index root (sym t.1 ∙ is)))
        (spread.only index marked)

  -- ---- marks

  -- before any search no index has a mark, so each marked one leads to itself
  pub none_leads : (n : ℕ) → AllLeadToThemselves graph (replicate n false)
  none_leads n index marked = absurd (false≢true (sym (none_marked n index) ∙ marked))

  -- each marked index leads to itself, and each index before `index` that leads to itself is marked
  pub record AreMarkedTo (index : ℕ) (marks : List Bool) : Type 0 where
    pub same_length : length marks ≡ length graph
    pub sound : AllLeadToThemselves graph marks
    pub whole : (earlier : ℕ) → earlier < index → Leads graph earlier earlier → is_marked marks earlier ≡ true

  -- the marks stay as they are if `index` has one or doesn't lead to itself
  pub marked_on : (index : ℕ) (marks : List Bool) → (Leads graph index index → is_marked marks index ≡ true)
      → AreMarkedTo index marks → AreMarkedTo (index + 1) marks
  marked_on index marks here h = record {
    same_length = h.same_length;
    sound = h.sound;
    whole = λ q below leads. elim (eqb_tells q index) [
      | inl t ↦ subst (λ x. is_marked marks x ≡ true) (sym t.1) (here (subst (λ x. Leads graph x x) t.1 leads))
      | inr t ↦ h.whole q (omega (arith, below, t.1)) leads
    ];
  }

  -- the mark of `index` is set to the result of a search from it
  pub marked_more : (index : ℕ) (found : Bool) (marks : List Bool) → index < length graph
      → (found ≡ true) ↔ Leads graph index index → AreMarkedTo index marks
      → AreMarkedTo (index + 1) (set marks index found)
  marked_more index found marks within exact h =
      let inside : index < length marks = omega (arith, within, h.same_length) in
      record {
        same_length = length-set marks index found ∙ h.same_length;
        sound = λ q marked. elim (set_decides {b = found} marks index q inside) [
          | inl t ↦ subst (λ x. Leads graph x x) (sym t.0) (exact.0 (sym t.1 ∙ marked))
          | inr t ↦ h.sound q (sym t.1 ∙ marked)
        ];
        whole = λ q below leads. elim (set_decides {b = found} marks index q inside) [
          | inl t ↦ t.1 ∙ exact.1 (subst (λ x. Leads graph x x) t.0 leads)
          | inr t ↦ t.1 ∙ h.whole q (omega (arith, below, t.0)) leads
        ];
      }

  -- an index that isn't a suspect or already has a mark needs no search
  pub marked_left : (index : ℕ) (suspects marks : List Bool) → index < length graph → AreSuspects graph suspects
      → (is_marked suspects index ≡ false) ⊎ (is_marked marks index ≡ true) → AreMarkedTo index marks
      → AreMarkedTo (index + 1) marks
  marked_left index suspects marks within none (inl clear) h = marked_on index marks (λ leads. absurd (none index within clear leads)) h
  marked_left index suspects marks within none (inr marked) h = marked_on index marks (λ leads. marked) h

  -- after all indices, exactly those that lead to themselves are marked
  pub marked_all : (marks : List Bool) (index : ℕ) → length graph ≡ index → AreMarkedTo index marks → AreOnCycles graph marks
  marked_all marks index at_end h = record {
    same_length = h.same_length;
    each = λ q within. (λ marked. h.sound q marked, λ leads. h.whole q (omega (arith, within, at_end)) leads);
  }
