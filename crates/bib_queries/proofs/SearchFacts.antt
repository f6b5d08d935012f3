-- The search for needed nodes: its state after each step.
use Rattle.std.proofs.Common.{◌≡◌, ◌<◌, ◌+◌, ◌↔◌, ℕ, zero, suc, Bool, true, false, cond, ◌||◌, List, [], ◌∷◌, ◌++◌, take, map, length, get_or, set, replicate, refl, sym, ap, subst, ◌∙◌, arith, ◌⊎◌, inl, inr, ⊎_elim, Option, Some, None}
use Rattle.std.specs.Prelude.{bytes_eq}
use Rattle.std.specs.List.{All, Contains}
use Rattle.std.specs.Borrow.{Bor}
use Rattle.std.specs.Global.{Vec}
use Rattle.std.specs.BTreeMap.{BTreeMap, get_by}
use Rattle.std.specs.Cmp.Lexicographic.{slice_cmp}
use Rattle.std.specs.Ordering.{nat_cmp}
use Rattle.std.specs.Option.{option_map_or}
use Rattle.std.proofs.lemmas.List.{take_more, map-append, length-map, length-take, length_push, get_or_past, length-replicate}
use Rattle.std.proofs.lemmas.List.Elements.{All-contains, All-weaker, All-more, All-from_get_or, Contains-get_or, Contains-push, Contains-append_left, Contains-push_cases}
use Rattle.std.proofs.lemmas.Bool.{false≢true, cases_lt}
use Rattle.std.proofs.lemmas.Slice.Eq.{bytes_eq-Decides}
use Rattle.bib_text.proofs.ListFacts.{contains_nothing}
use Rattle.bib_queries.specs.declared.names.Links.{Links}
use Rattle.bib_queries.specs.Texts.{node_of}
use Rattle.bib_queries.specs.Needed.{AreMarks, HasName, IsMarked, IsNeeded, Node, RefersTo, is_listed, node_at}
use Rattle.bib_queries.specs.Needed.IsNeeded.{asked, reached}
use Rattle.bib_queries.specs.Searching.{AreHolders, AreHoldersIn, Marks, LooksUp, holders_in}
use Rattle.bib_queries.proofs.MarkFacts.{any_push, unmarked_less, set_decides, mark_kept, none_marked, marked_below}
use Rattle.std.proofs.Math.Bool.{or-true}

abbrev pub Map : Type 0
Map = BTreeMap (Bor (List ℕ)) (Vec ℕ)

-- ---- one more name, one more node

-- a name is among names and one more exactly if it is this one or among the others
pub among_push : (names : List (List ℕ)) (one name : List ℕ)
    → is_listed (names ++ one ∷ []) name ≡ cond (bytes_eq one name) true (is_listed names name)
among_push names one name = any_push (λ n. bytes_eq n name) names one

-- if the indices of a name are right for the names so far, they are right after one more name, with the index appended if `b` is true
pub holder_more : (b : Bool) (old now after : List ℕ) (index one : ℕ) (among among' : Bool)
    → after ≡ cond b (now ++ index ∷ []) now → among' ≡ cond b true among
    → Contains now one ↔ (Contains old one ⊎ ((one ≡ index) × (among ≡ true)))
    → Contains after one ↔ (Contains old one ⊎ ((one ≡ index) × (among' ≡ true)))
holder_more true old now after index one among among' is is' so = (
  λ h.
      ⊎_elim (λ was. ⊎_elim (λ o. inl o) (λ x. inr (x.0, is')) (so.0 was)) (λ e. inr (sym e, is'))
      (Contains-push_cases now index one (subst (λ l. Contains l one) is h)),
  λ h.
      subst (λ l. Contains l one) (sym is)
      (⊎_elim (λ o. Contains-append_left now (index ∷ []) one (so.1 (inl o)))
      (λ x. subst (λ p. Contains (now ++ index ∷ []) p) (sym x.0) (Contains-push now index)) h),
)
holder_more false old now after index one among among' is is' so = (
  λ h. ⊎_elim (λ o. inl o) (λ x. inr (x.0, is' ∙ x.1)) (so.0 (subst (λ l. Contains l one) is h)),
  λ h. subst (λ l. Contains l one) (sym is) (so.1 (⊎_elim (λ o. inl o) (λ x. inr (x.0, sym is' ∙ x.1)) h)),
)

-- a name is among the first `i + 1` names exactly if it is the last of them or among the others
pub among_more : (names : List (Bor (List ℕ))) (i : ℕ) (d : Bor (List ℕ)) (name : List ℕ) → i < length names
    → is_listed (map (λ n. n.now) (take (i + 1) names)) name
    ≡ cond (bytes_eq (get_or names i d).now name) true (is_listed (map (λ n. n.now) (take i names)) name)
among_more names i d name within =
    ap (λ l. is_listed (map (λ n. n.now) l) name) (take_more names i d within)
    ∙ ap (λ l. is_listed l name) (map-append (λ n. n.now) (take i names) (get_or names i d ∷ []))
    ∙ among_push (map (λ n. n.now) (take i names)) (get_or names i d).now name

pub among_at : (names : List (Bor (List ℕ))) (i : ℕ) (d : Bor (List ℕ)) → i < length names
    → is_listed (map (λ n. n.now) names) (get_or names i d).now ≡ true
among_at [] i d within = absurd (omega (arith, within))
among_at (n ∷ names) zero d within = ap (λ b. b || is_listed (map (λ n. n.now) names) n.now) ((bytes_eq-Decides n.now n.now).1 refl)
among_at (n ∷ names) (suc i) d within =
    ap (λ b. bytes_eq n.now (get_or names i d).now || b) (among_at names i d (omega (arith, within)))
    ∙ or-true (bytes_eq n.now (get_or names i d).now)

-- ---- the map, if the indices of a name are removed, or one is added

items_of : Option (Vec ℕ) → List ℕ
items_of o = option_map_or (λ indices. indices.items) o []

-- removing a name from the map leaves the indices of every other name
pub taken_left : (m new : Map) (name other : List ℕ)
    → get_by (λ k. slice_cmp nat_cmp other k.now) new
    ≡ cond (bytes_eq name other) None (get_by (λ k. slice_cmp nat_cmp other k.now) m)
    → holders_in new other ≡ cond (bytes_eq name other) [] (holders_in m other)
unfolding items_of
taken_left m new name other is = ap items_of is ∙ of (bytes_eq name other) (get_by (λ k. slice_cmp nat_cmp other k.now) m) where
  of : (b : Bool) (o : Option (Vec ℕ)) → items_of (cond b None o) ≡ cond b [] (items_of o)
  of true o = refl
  of false o = refl

-- removing the indices of a name and inserting them with one more appends that one, and changes no other name
pub holder_added : (m mid new : Map) (name : List ℕ) (index : ℕ) (v : Vec ℕ) → v.items ≡ holders_in m name ++ index ∷ []
    → ((other : List ℕ) → holders_in mid other ≡ cond (bytes_eq name other) [] (holders_in m other)) → (other : List ℕ)
    → get_by (λ k. slice_cmp nat_cmp other k.now) new
    ≡ cond (bytes_eq name other) (Some v) (get_by (λ k. slice_cmp nat_cmp other k.now) mid)
    → holders_in new other ≡ cond (bytes_eq name other) (holders_in m other ++ index ∷ []) (holders_in m other)
unfolding items_of
holder_added m mid new name index v items left other is = of (bytes_eq name other) refl where
  of : (b : Bool) → bytes_eq name other ≡ b
      → holders_in new other ≡ cond (bytes_eq name other) (holders_in m other ++ index ∷ []) (holders_in m other)
  of true same =
      ap items_of (is ∙ ap (λ b. cond b (Some v) (get_by (λ k. slice_cmp nat_cmp other k.now) mid)) same) ∙ items
      ∙ ap (λ n. holders_in m n ++ index ∷ []) ((bytes_eq-Decides name other).0 same)
      ∙ sym (ap (λ b. cond b (holders_in m other ++ index ∷ []) (holders_in m other)) same)
  of false other_name =
      ap items_of (is ∙ ap (λ b. cond b (Some v) (get_by (λ k. slice_cmp nat_cmp other k.now) mid)) other_name)
      ∙ left other ∙ ap (λ b. cond b [] (holders_in m other)) other_name
      ∙ sym (ap (λ b. cond b (holders_in m other ++ index ∷ []) (holders_in m other)) other_name)

abbrev nobody : Node
nobody = record { names = []; references = [] }

-- the node at an index has a name exactly if it had it before, or if it is the added one and has it
pub node_push : (nodes : List Node) (node : Node) (index : ℕ) (name : List ℕ)
    → HasName (nodes ++ node ∷ []) index name ↔
    (HasName nodes index name ⊎ ((index ≡ length nodes) × (is_listed node.names name ≡ true)))
node_push [] node zero name = (λ h. inr (refl, h), λ h. ⊎_elim (λ no. absurd (false≢true no)) (λ x. x.1) h)
node_push [] node (suc index) name =
    (λ h. absurd (false≢true h), λ h. ⊎_elim (λ no. absurd (false≢true no)) (λ x. absurd (omega (arith, x.0))) h)
node_push (first ∷ nodes) node zero name = (λ h. inl h, λ h. ⊎_elim (λ x. x) (λ x. absurd (omega (arith, x.0))) h)
node_push (first ∷ nodes) node (suc index) name =
    let so = node_push nodes node index name in (
      λ h. ⊎_elim (λ x. inl x) (λ x. inr (omega (arith, x.0), x.1)) (so.0 h),
      λ h. so.1 (⊎_elim (λ x. inl x) (λ x. inr (omega (arith, x.0), x.1)) h),
    )

-- a map of the nodes with each name stays one if a node is appended and its index is added to its names
pub holders_push : (nodes : List Node) (node : Node) (m m' : Map) → AreHolders nodes m
    →
    ((name : List ℕ) (one : ℕ)
    → Contains (holders_in m' name) one ↔
    (Contains (holders_in m name) one ⊎ ((one ≡ length nodes) × (is_listed node.names name ≡ true))))
    → AreHolders (nodes ++ node ∷ []) m'
holders_push nodes node m m' so more name index =
    let was = so name index in
    let now = more name index in
    let both = node_push nodes node index name in
    (λ h. both.1 (⊎_elim (λ x. inl (was.0 x)) (λ x. inr x) (now.0 h)), λ h. now.1 (⊎_elim (λ x. inl (was.1 x)) (λ x. inr x) (both.0 h)))

-- a map of the first `i` nodes, extended by the names of the next node, is one of the first `i + 1`
pub holders_next : (links : List Links) (i : ℕ) (link : Links) (names : List (Bor (List ℕ))) (m m' : Map)
    → i < length links → link ≡ get_or links i link → names ≡ link.names.items
    → AreHolders (map node_of (take i links)) m
    →
    ((name : List ℕ) (one : ℕ)
    → Contains (holders_in m' name) one ↔
    (Contains (holders_in m name) one ⊎ ((one ≡ i) × (is_listed (map (λ n. n.now) names) name ≡ true))))
    → AreHolders (map node_of (take (i + 1) links)) m'
holders_next links i link names m m' within is named so more =
    let before = map node_of (take i links) in
    let long : i ≡ length before = omega (arith, length-map (take i links) node_of, length-take i links, within) in
    let here : map node_of (take (i + 1) links) ≡ before ++ node_of link ∷ [] =
    ap (map node_of) (take_more links i link within ∙ ap (λ l. take i links ++ l ∷ []) (sym is))
    ∙ map-append node_of (take i links) (link ∷ []) in
    subst (λ nodes. AreHolders nodes m') (sym here) (holders_push before (node_of link) m m' so
    (λ name one. subst
    (λ k.
    Contains (holders_in m' name) one ↔
    (Contains (holders_in m name) one
    ⊎ ((one ≡ k) × (is_listed (map (λ n. n.now) link.names.items) name ≡ true)))) long
    (subst
    (λ l.
    Contains (holders_in m' name) one ↔
    (Contains (holders_in m name) one ⊎ ((one ≡ i) × (is_listed (map (λ n. n.now) l) name ≡ true)))) named
    (more name one))))

-- the index of a node with a name is within the list
pub named_below : (nodes : List Node) (index : ℕ) (name : List ℕ) → HasName nodes index name → index < length nodes
named_below nodes index name h = elim (cases_lt index (length nodes)) [
  | inl t ↦ omega arith
  | inr t ↦ absurd (false≢true (ap (λ node. is_listed node.names name) (sym (get_or_past nodes index nobody t)) ∙ h))
]

-- ---- marks on indices, one after another

-- unchanged marks and pending indices are an extension
pub nothing_marked : (is_new : ℕ → Type 0) (marks : List Bool) (pending : List ℕ) → Marks is_new marks pending marks pending
nothing_marked is_new marks pending = record {
  kept = λ i h. h;
  only = λ i h. inl h;
  waiting = λ i h. h;
  waits = λ i h. inl h;
  as_many = refl;
}

-- if `P` implies `Q`, an extension by indices with `P` is an extension by indices with `Q`
pub marks_weaker : (P Q : ℕ → Type 0) → ((i : ℕ) → P i → Q i)
    → (old : List Bool) (before : List ℕ) (new : List Bool) (after : List ℕ) → Marks P old before new after
    → Marks Q old before new after
marks_weaker P Q weaker old before new after h = record {
  kept = h.kept;
  only = λ i m. ⊎_elim (λ o. inl o) (λ x. inr (weaker i x.0, x.1)) (h.only i m);
  waiting = h.waiting;
  waits = h.waits;
  as_many = h.as_many;
}

-- if an index without a mark gets one and becomes pending, the marks are extended by this index
pub one_marked : (marks : List Bool) (pending : List ℕ) (index : ℕ) → index < length marks
    → get_or marks index false ≡ false
    → Marks (λ i. i ≡ index) marks pending (set marks index true) (pending ++ index ∷ [])
one_marked marks pending index within none = record {
  kept = λ i h. mark_kept marks index i within h;
  only = λ i h. elim (set_decides marks index i within) [
    | inl t ↦ inr (t.0, subst (λ p. Contains (pending ++ index ∷ []) p) (sym t.0) (Contains-push pending index))
    | inr t ↦ inl (sym t.1 ∙ h)
  ];
  waiting = λ i h. Contains-append_left pending (index ∷ []) i h;
  waits = λ i h.
      ⊎_elim (λ o. inl o)
      (λ e.
      inr
      (subst (λ p. IsMarked (set marks index true) p) e
      (elim (set_decides marks index index within) [ inl t ↦ t.1 | inr t ↦ absurd (t.0 refl) ])))
      (Contains-push_cases pending index i h);
  as_many = omega (arith, unmarked_less marks index within none, length_push pending index);
}

-- an extension of an extension is an extension of the first state
pub marks_then : (P : ℕ → Type 0) (old : List Bool) (before : List ℕ) (mid : List Bool) (between : List ℕ)
    (new : List Bool) (after : List ℕ) → Marks P old before mid between → Marks P mid between new after
    → Marks P old before new after
marks_then P old before mid between new after first second = record {
  kept = λ i h. second.kept i (first.kept i h);
  only = λ i h. ⊎_elim (λ m. ⊎_elim (λ o. inl o) (λ x. inr (x.0, second.waiting i x.1)) (first.only i m)) (λ x. inr x) (second.only i h);
  waiting = λ i h. second.waiting i (first.waiting i h);
  waits = λ i h. ⊎_elim (λ w. ⊎_elim (λ o. inl o) (λ m. inr (second.kept i m)) (first.waits i w)) (λ m. inr m) (second.waits i h);
  as_many = omega (arith, first.as_many, second.as_many);
}

-- giving a mark to the next index, which has none, and making it pending extends the marks by one of the indices
pub mark_next : (indices : List ℕ) (k : ℕ) (old : List Bool) (before : List ℕ) (marks marks' : List Bool)
    (pending pending' : List ℕ) → k < length indices → get_or indices k 0 < length marks
    → get_or marks (get_or indices k 0) false ≡ false
    → marks' ≡ set marks (get_or indices k 0) true → pending' ≡ pending ++ get_or indices k 0 ∷ []
    → Marks (Contains indices) old before marks pending → Marks (Contains indices) old before marks' pending'
mark_next indices k old before marks marks' pending pending' below within none s p h =
    let r = get_or indices k 0 in
    let one =
    marks_weaker (λ i. i ≡ r) (Contains indices)
    (λ i e. subst (Contains indices) (sym e) (Contains-get_or indices k 0 below)) marks pending
    (set marks r true) (pending ++ r ∷ []) (one_marked marks pending r within none) in
    rw (s, p) (marks_then (Contains indices) old before marks pending (set marks r true) (pending ++ r ∷ []) h one)

-- if the first `k` indices and the next one have marks, the first `k + 1` have marks
pub all_next : (indices : List ℕ) (k : ℕ) (marks marks' : List Bool) → k < length indices
    → ((i : ℕ) → IsMarked marks i → IsMarked marks' i) → IsMarked marks' (get_or indices k 0)
    → All (IsMarked marks) (take k indices) → All (IsMarked marks') (take (k + 1) indices)
all_next indices k marks marks' below kept here all =
    All-more (IsMarked marks') indices k 0 below
    (All-weaker (IsMarked marks) (IsMarked marks') kept (take k indices) all) here

-- ---- names that are looked up, one after another

-- no name is looked up at first
pub nothing_looked_up : (m : Map) (marks : List Bool) → LooksUp m [] marks m
nothing_looked_up m marks = record { looked_up = λ name no. absurd (false≢true no); left = λ name. inl refl }

-- after one more name is looked up, it and the names before it are looked up
pub one_looked_up : (m mid new : Map) (names : List (List ℕ)) (one : List ℕ) (marks marks' : List Bool)
    → LooksUp m names marks mid → ((i : ℕ) → IsMarked marks i → IsMarked marks' i)
    → All (IsMarked marks') (holders_in mid one)
    → ((other : List ℕ) → holders_in new other ≡ cond (bytes_eq one other) [] (holders_in mid other))
    → LooksUp m (names ++ one ∷ []) marks' new
one_looked_up m mid new names one marks marks' h kept all left =
    let still : (name : List ℕ) → All (IsMarked marks) (holders_in m name) → All (IsMarked marks') (holders_in m name) =
    λ name a. All-weaker (IsMarked marks) (IsMarked marks') kept (holders_in m name) a in
    let here : (name : List ℕ)
    → (holders_in mid name ≡ holders_in m name)
    ⊎ ((holders_in mid name ≡ []) × All (IsMarked marks) (holders_in m name))
    → All (IsMarked marks') (holders_in mid name) → All (IsMarked marks') (holders_in m name)
    = λ name cases a. ⊎_elim (λ e. subst (λ l. All (IsMarked marks') l) e a) (λ x. still name x.1) cases in
    record {
      looked_up = λ name among. looked name (bytes_eq one name) refl (sym (among_push names one name) ∙ among);
      left = λ name. lefts name (bytes_eq one name) refl;
    } where
      kept_all : (name : List ℕ) → All (IsMarked marks) (holders_in m name) → All (IsMarked marks') (holders_in m name)
      kept_all name a = All-weaker (IsMarked marks) (IsMarked marks') kept (holders_in m name) a

      marked_here : (name : List ℕ) → one ≡ name → All (IsMarked marks') (holders_in m name)
      marked_here name same =
          subst (λ n. All (IsMarked marks') (holders_in m n)) same
          (⊎_elim (λ e. subst (λ l. All (IsMarked marks') l) e all) (λ x. kept_all one x.1) (h.left one))

      looked : (name : List ℕ) (b : Bool) → bytes_eq one name ≡ b → cond b true (is_listed names name) ≡ true
          → All (IsMarked marks') (holders_in m name)
      looked name true is among = marked_here name ((bytes_eq-Decides one name).0 is)
      looked name false is among = kept_all name (h.looked_up name among)

      lefts : (name : List ℕ) (b : Bool) → bytes_eq one name ≡ b
          → (holders_in new name ≡ holders_in m name)
          ⊎ ((holders_in new name ≡ []) × All (IsMarked marks') (holders_in m name))
      lefts name true is =
          inr (
            left name ∙ ap (λ b. cond b [] (holders_in mid name)) is,
            marked_here name ((bytes_eq-Decides one name).0 is),
          )
      lefts name false is =
          let same : holders_in new name ≡ holders_in mid name = left name ∙ ap (λ b. cond b [] (holders_in mid name)) is in
          ⊎_elim (λ e. inl (same ∙ e)) (λ x. inr (same ∙ x.0, kept_all name x.1)) (h.left name)

-- an index that lookups leave in the map was in it before
pub holder_before : (m mid : Map) (names : List (List ℕ)) (marks : List Bool) (name : List ℕ) (i : ℕ)
    → LooksUp m names marks mid → Contains (holders_in mid name) i → Contains (holders_in m name) i
holder_before m mid names marks name i h c =
    ⊎_elim (λ e. subst (λ l. Contains l i) e c) (λ x. absurd (contains_nothing (subst (λ l. Contains l i) x.0 c)))
    (h.left name)

-- the indices that lookups leave in the map are below the same bound
pub left_below : (m mid : Map) (names : List (List ℕ)) (marks : List Bool) (n : ℕ) → LooksUp m names marks mid
    → ((other : List ℕ) → All (λ i. i < n) (holders_in m other)) → (other : List ℕ)
    → All (λ i. i < n) (holders_in mid other)
left_below m mid names marks n h below other =
    ⊎_elim (λ e. subst (λ l. All (λ i. i < n) l) (sym e) (below other))
    (λ x. subst (λ l. All (λ i. i < n) l) (sym x.0) (λ k d no. absurd (omega (arith, no)))) (h.left other)

-- ---- the search

-- whether all nodes with a name have marks
abbrev pub IsTaken : List Node → List Bool → List ℕ → Type 0
IsTaken nodes marks name = (index : ℕ) → HasName nodes index name → IsMarked marks index

module _ (names : List (List ℕ)) (nodes : List Node) where
  -- the state of the map and the marks: each mark is on a needed node; each node with a name is in the map under it, or has a mark; and the
  -- map contains under a name only nodes that have it
  pub record IsBegun (m : Map) (marks : List Bool) : Type 0 where
    pub same_length : length marks ≡ length nodes
    pub sound : (i : ℕ) → IsMarked marks i → IsNeeded names nodes i
    pub left : (name : List ℕ) (i : ℕ) → HasName nodes i name → Contains (holders_in m name) i ⊎ IsMarked marks i
    pub held : (name : List ℕ) (i : ℕ) → Contains (holders_in m name) i → HasName nodes i name

  -- the state of the search: pending nodes and nodes with a requested name have marks; if a marked node isn't pending, all nodes
  -- that it refers to have marks
  pub record IsSearch (m : Map) (marks : List Bool) (pending : List ℕ) : Type 0 where
    pub begun : IsBegun m marks
    pub waits : (i : ℕ) → Contains pending i → IsMarked marks i
    pub found : (name : List ℕ) → is_listed names name ≡ true → IsTaken nodes marks name
    pub closed : (i : ℕ) → IsMarked marks i → Contains pending i ⊎ ((name : List ℕ) → RefersTo nodes i name → IsTaken nodes marks name)

  pub at_first : (m : Map) (marks : List Bool) → length marks ≡ length nodes → ((i : ℕ) → IsMarked marks i → ⊥)
      → AreHolders nodes m → IsBegun m marks
  at_first m marks len none holders = record {
    same_length = len;
    sound = λ i h. absurd (none i h);
    left = λ name i h. inl ((holders name i).1 h);
    held = λ name i h. (holders name i).0 h;
  }

  pub holders_below : (m : Map) (marks : List Bool) → IsBegun m marks → (name : List ℕ) → All (λ i. i < length marks) (holders_in m name)
  holders_below m marks h name =
      All-from_get_or (λ i. i < length marks) (holders_in m name) 0
      (λ k below.
      omega (
        arith,
        h.same_length,
        named_below nodes (get_or (holders_in m name) k 0) name
            (h.held name _ (Contains-get_or (holders_in m name) k 0 below)),
      ))

  -- the state after further names are looked up
  module _ (m m' : Map) (marks marks' : List Bool) (pending pending' : List ℕ) (asked_for : List (List ℕ))
      (len : length marks' ≡ length marks) (marked : Marks (AreHoldersIn m asked_for) marks pending marks' pending')
      (expands : LooksUp m asked_for marks' m') (h : IsBegun m marks) where
    taken : (name : List ℕ) → is_listed asked_for name ≡ true → IsTaken nodes marks' name
    taken name among i named =
        ⊎_elim (λ held. All-contains (IsMarked marks') (holders_in m name) i (expands.looked_up name among) held)
        (λ was. marked.kept i was) (h.left name i named)

    pub begun_more :
        ((name : List ℕ) (i : ℕ) → is_listed asked_for name ≡ true → HasName nodes i name → IsNeeded names nodes i)
        → IsBegun m' marks'
    begun_more needed = record {
      same_length = len ∙ h.same_length;
      sound = λ i now. ⊎_elim (λ was. h.sound i was) (λ x. needed x.0.0 i x.0.1 (h.held x.0.0 i x.0.2)) (marked.only i now);
      left = λ name i named. ⊎_elim
          (λ held.
          ⊎_elim (λ same. inl (subst (λ l. Contains l i) (sym same) held))
          (λ x. inr (All-contains (IsMarked marks') (holders_in m name) i x.1 held)) (expands.left name))
          (λ was. inr (marked.kept i was)) (h.left name i named);
      held = λ name i held. h.held name i (holder_before m m' asked_for marks' name i expands held);
    }

    pub waits_more : ((i : ℕ) → Contains pending i → IsMarked marks i) → (i : ℕ) → Contains pending' i → IsMarked marks' i
    waits_more waits i c = ⊎_elim (λ was. marked.kept i (waits i was)) (λ now. now) (marked.waits i c)

    pub taken_more : (name : List ℕ) → is_listed asked_for name ≡ true → IsTaken nodes marks' name
    taken_more = taken

    pub kept_taken : (name : List ℕ) → IsTaken nodes marks name → IsTaken nodes marks' name
    kept_taken name t i named = marked.kept i (t i named)

  -- looking up the requested names begins the search
  pub search_first : (m m' : Map) (marks marks' : List Bool) (pending' : List ℕ) → length marks' ≡ length marks
      → ((i : ℕ) → IsMarked marks i → ⊥) → Marks (AreHoldersIn m names) marks [] marks' pending'
      → LooksUp m names marks' m' → IsBegun m marks → IsSearch m' marks' pending'
  search_first m m' marks marks' pending' len none marked expands h = record {
    begun = begun_more m m' marks marks' [] pending' names len marked expands h (λ name i among named. asked name among named);
    waits = waits_more m m' marks marks' [] pending' names len marked expands h (λ i c. absurd (contains_nothing c));
    found = λ name among. taken_more m m' marks marks' [] pending' names len marked expands h name among;
    closed = λ i now. ⊎_elim (λ was. absurd (none i was)) (λ x. inl x.1) (marked.only i now);
  }

  -- looking up the names that the last pending node refers to continues the search
  pub search_more : (m m' : Map) (marks marks' : List Bool) (before pending pending' : List ℕ) (index : ℕ)
      → before ≡ pending ++ index ∷ [] → length marks' ≡ length marks
      → Marks (AreHoldersIn m (node_at nodes index).references) marks pending marks' pending'
      → LooksUp m (node_at nodes index).references marks' m' → IsSearch m marks before → IsSearch m' marks' pending'
  search_more m m' marks marks' before pending pending' index popped len marked expands h =
      let refs = (node_at nodes index).references in
      let here : IsMarked marks index = h.waits index (subst (λ l. Contains l index) (sym popped) (Contains-push pending index)) in
      let kept = kept_taken m m' marks marks' pending pending' refs len marked expands h.begun in
      let all = taken_more m m' marks marks' pending pending' refs len marked expands h.begun in
      record {
        begun =
            begun_more m m' marks marks' pending pending' refs len marked expands h.begun
            (λ name i among named. reached name (h.begun.sound index here) among named);
        waits =
            waits_more m m' marks marks' pending pending' refs len marked expands h.begun
            (λ i c.
            h.waits i (subst (λ l. Contains l i) (sym popped) (Contains-append_left pending (index ∷ []) i c)));
        found = λ name among. kept name (h.found name among);
        closed = λ i now. ⊎_elim
            (λ was. ⊎_elim
            (λ waited.
            ⊎_elim (λ c. inl (marked.waiting i c))
            (λ e. inr (λ name refers. all name (subst (λ p. RefersTo nodes p name) (sym e) refers)))
            (Contains-push_cases pending index i (subst (λ l. Contains l i) popped waited)))
            (λ done. inr (λ name refers. kept name (done name refers))) (h.closed i was))
            (λ x. inl x.1) (marked.only i now);
      }

  -- if nothing is pending, each needed node has a mark
  complete : (m : Map) (marks : List Bool) (i : ℕ) → IsSearch m marks [] → IsNeeded names nodes i → IsMarked marks i
  complete m marks i h (asked name among named) = h.found name among i named
  complete m marks i h (reached {first = first} name needed refers named) =
      ⊎_elim (λ c. absurd (contains_nothing c)) (λ all. all name refers i named) (h.closed first (complete m marks first h needed))

  pub search_all : (m : Map) (marks : List Bool) → IsSearch m marks [] → AreMarks (IsNeeded names nodes) (length nodes) marks
  search_all m marks h = record {
    same_length = h.begun.same_length;
    each = λ i below. (λ now. h.begun.sound i now, λ needed. complete m marks i h needed);
  }

  -- looking up the requested names without any marks begins the search
  pub search_start : (m m' : Map) (old marks' : List Bool) (before pending' : List ℕ)
      → old ≡ replicate (length nodes) false → before ≡ [] → length marks' ≡ length old
      → Marks (AreHoldersIn m names) old before marks' pending' → LooksUp m names marks' m'
      → AreHolders nodes m → IsSearch m' marks' pending'
  search_start m m' old marks' before pending' none empty len marked expands holders =
      let unmarked_yet : (i : ℕ) → IsMarked old i → ⊥ = λ i h. none_marked (length nodes) i (subst (λ l. IsMarked l i) none h) in
      search_first m m' old marks' pending' len unmarked_yet
      (subst (λ l. Marks (AreHoldersIn m names) old l marks' pending') empty marked) expands
      (at_first m old (ap length none ∙ length-replicate (length nodes) false) unmarked_yet holders)

  -- before the search, the indices in the map are within the marks
  pub start_bounded : (m : Map) (old : List Bool) → old ≡ replicate (length nodes) false → AreHolders nodes m
      → (name : List ℕ) → All (λ i. i < length old) (holders_in m name)
  start_bounded m old none holders =
      holders_below m old
      (at_first m old (ap length none ∙ length-replicate (length nodes) false)
      (λ i h. none_marked (length nodes) i (subst (λ l. IsMarked l i) none h)) holders)

  -- the last pending index is within the list of nodes
  pub waiting_below : (m : Map) (marks : List Bool) (before pending : List ℕ) (index : ℕ)
      → before ≡ pending ++ index ∷ [] → IsSearch m marks before → index < length nodes
  waiting_below m marks before pending index popped h =
      let below = marked_below marks index (h.waits index (subst (λ l. Contains l index) (sym popped) (Contains-push pending index))) in
      omega (arith, below, h.begun.same_length)

node_of_at : (links : List Links) (index : ℕ) (link : Links) → index < length links → link ≡ get_or links index link
    → node_at (map node_of links) index ≡ node_of link
node_of_at [] index link within is = absurd (omega (arith, within))
node_of_at (l ∷ links) zero link within is = ap node_of (sym is)
node_of_at (l ∷ links) (suc index) link within is = node_of_at links index link (omega (arith, within)) is

-- looking up the references of the last pending node is a step of the search
pub search_step : (names : List (List ℕ)) (links : List Links) (m m' : Map) (marks old marks' : List Bool)
    (before pending pending' : List ℕ) (index : ℕ) (link : Links) (refs : List (Bor (List ℕ))) → old ≡ marks
    → before ≡ pending ++ index ∷ []
    → index < length links → link ≡ get_or links index link → refs ≡ link.references.items → length marks' ≡ length old
    → Marks (AreHoldersIn m (map (λ n. n.now) refs)) old pending marks' pending'
    → LooksUp m (map (λ n. n.now) refs) marks' m'
    → IsSearch names (map node_of links) m marks before → IsSearch names (map node_of links) m' marks' pending'
search_step names links m m' marks old marks' before pending pending' index link refs same popped within is refers len marked expands h =
    let here : map (λ n. n.now) refs ≡ (node_at (map node_of links) index).references =
    ap (map (λ n. n.now)) refers ∙ ap (λ node. node.references) (sym (node_of_at links index link within is)) in
    search_more names (map node_of links) m m' marks marks' before pending pending' index popped (len ∙ ap length same)
    (subst (λ l. Marks (AreHoldersIn m l) marks pending marks' pending') here
    (subst (λ l. Marks (AreHoldersIn m (map (λ n. n.now) refs)) l pending marks' pending') same marked))
    (subst (λ l. LooksUp m l marks' m') here expands) h
