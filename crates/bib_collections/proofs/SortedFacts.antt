-- Facts about sorted pairs and about their finite maps.
use Rattle.std.proofs.Common.{◌≡◌, ℕ, ◌+◌, ◌<◌, ◌≤◌, Bool, true, false, cond, not, ◌&&◌, T, List, [], ◌∷◌, length, get_or, set, Option, Some, None, refl, sym, ap, subst, ◌∙◌, suc, zero, arith, Less, Equal, Greater, Ordering, is_lt, is_eq, IsTrue, HoldsAt, IsSortedBy, insert, remove}
use Rattle.std.proofs.Common.{◌++◌, reverse, Result, Ok, Err, MatchResult}
use Rattle.std.specs.List.{AllWithin}
use Rattle.std.specs.List.Sorted.{IsSearchInRange, IsBinarySearchResult}
use Rattle.std.proofs.lemmas.List.Sorted.{searchable_from_sorted}
use Rattle.std.specs.Cmp.{IsTotalOrder}
use Rattle.std.specs.Ordering.{ordering_reverse, eq_by_cmp}
use Rattle.std.proofs.lemmas.Cmp.{alike_right, eq_by_cmp_equiv, nat_list_cmp_total}
use Rattle.std.specs.FinMap as map
use Rattle.std.specs.FinMap.{empty_of_len, len-entries}
use Rattle.std.proofs.lemmas.List.{reverse-append}
use Rattle.std.proofs.lemmas.Bool.{false≢true}
use Rattle.std.proofs.Common.{IsSome, ◌⊎◌, inl}
use Rattle.std.specs.FinMap.{find, put, is_sorted, IsAntisymmetric, from_sorted, entries-from_sorted, get-from_sorted, same_entries_map, entries-insert, same_map, get-remove, slice_cmp-IsAntisymmetric, nat_cmp-IsAntisymmetric}
use Rattle.std.specs.FinMap.Entries.{by_order, where_key, below_all, is_sorted-put, is_sorted-where_key, find-where_key}
use Rattle.bib_collections.specs.Sorted.{ByText, by_bytes, map_of, IsSorted, IsIndexOf, IsGapFor}

pub first : (a b : Bool) → T (a && b) → T a
first true b p = tt
first false b p = p

pub second : (a b : Bool) → T (a && b) → T b
second true b p = p
second false b p = absurd p

pub both : (a b : Bool) → T a → T b → T (a && b)
both true b p q = q
both false b p q = absurd p

pub less : (o : Ordering) → T (is_lt o) → o ≡ Less
less Less p = refl
less Equal p = absurd p
less Greater p = absurd p

pub tied : (o : Ordering) → T (is_eq o) → o ≡ Equal
tied Less p = absurd p
tied Equal p = refl
tied Greater p = absurd p

pub holds : (b : Bool) → IsTrue b → T b
holds b e = subst T (sym e) tt

pub is_true : (b : Bool) → T b → IsTrue b
is_true true p = refl
is_true false p = absurd p

turned : {A : Type 0} (b : Bool) (x y : A) → cond b x y ≡ cond (not b) y x
turned true x y = refl
turned false x y = refl

module _ {K V : Type 0} {R : K → K → Ordering} (o : IsTotalOrder R) where
  below_at : (x : K) (es : List (K × V)) → T (below_all R x es) → (j : ℕ) (d : K × V) → j < length es → R x (get_or es j d).0 ≡ Less
  below_at x [] h j d lt = absurd (omega arith)
  below_at x (e ∷ es) h zero d lt = less _ (first _ _ h)
  below_at x (e ∷ es) h (suc j) d lt = below_at x es (second _ _ h) j d (omega arith)

  -- each of sorted pairs has a smaller key than each pair after it
  pub rises : (es : List (K × V)) → T (is_sorted R es) → (i j : ℕ) (d : K × V) → i < j → j < length es
      → R (get_or es i d).0 (get_or es j d).0 ≡ Less
  rises [] h i j d before lt = absurd (omega arith)
  rises (e ∷ es) h i zero d before lt = absurd (omega arith)
  rises (e ∷ es) h zero (suc j) d before lt = below_at e.0 es (first _ _ h) j d (omega arith)
  rises (e ∷ es) h (suc i) (suc j) d before lt = rises es (second _ _ h) i j d (omega arith) (omega arith)

  -- sorted pairs ascend by their keys
  pub ascends : (es : List (K × V)) → T (is_sorted R es) → IsSortedBy (λ a b. is_lt (R a.0 b.0)) es
  ascends es h k d low lt = ap is_lt (o.antisymm _ _ ∙ ap ordering_reverse (rises es h k (k + 1) d (omega arith) lt))

  gap_first : (k : K) (e : K × V) (es : List (K × V)) → AllWithin (λ p. R p.0 k ≡ Greater) (e ∷ es) 0 (suc (length es)) → R k e.0 ≡ Less
  gap_first k e es greater = o.antisymm k e.0 ∙ ap ordering_reverse (greater 0 e (omega arith) (omega arith))

  gap_later : (k : K) (e : K × V) (es : List (K × V)) (i : ℕ) → AllWithin (λ p. R p.0 k ≡ Less) (e ∷ es) 0 (suc i) → R k e.0 ≡ Greater
  gap_later k e es i smaller = o.antisymm k e.0 ∙ ap ordering_reverse (smaller 0 e (omega arith) (omega arith))

  -- a key with a gap between smaller and greater keys isn't found
  pub gap_find : (k : K) (es : List (K × V)) (i : ℕ) → i ≤ length es → AllWithin (λ p. R p.0 k ≡ Less) es 0 i
      → AllWithin (λ p. R p.0 k ≡ Greater) es i (length es) → find R k es ≡ None
  gap_find k [] i le smaller greater = refl
  gap_find k (e ∷ es) zero le smaller greater =
      ap (λ r. cond (is_eq r) (Some e.1) (find R k es)) (gap_first k e es greater)
      ∙ gap_find k es zero (omega arith) (λ j d a b. absurd (omega arith)) (λ j d a b. greater (suc j) d (omega arith) (omega arith))
  gap_find k (e ∷ es) (suc i) le smaller greater =
      ap (λ r. cond (is_eq r) (Some e.1) (find R k es)) (gap_later k e es i smaller)
      ∙ gap_find k es i (omega arith) (λ j d a b. smaller (suc j) d (omega arith) (omega arith))
      (λ j d a b. greater (suc j) d (omega arith) (omega arith))

  -- putting a pair with such a key inserts it at the gap
  pub gap_put : (k : K) (v : V) (es : List (K × V)) (i : ℕ) → i ≤ length es → AllWithin (λ p. R p.0 k ≡ Less) es 0 i
      → AllWithin (λ p. R p.0 k ≡ Greater) es i (length es) → put R k v es ≡ insert es i (k, v)
  gap_put k v [] zero le smaller greater = refl
  gap_put k v [] (suc i) le smaller greater = absurd (omega arith)
  gap_put k v (e ∷ es) zero le smaller greater =
      ap (λ r. by_order r ((k, v) ∷ e ∷ es) ((e.0, v) ∷ es) (e ∷ put R k v es)) (gap_first k e es greater)
  gap_put k v (e ∷ es) (suc i) le smaller greater =
      ap (λ r. by_order r ((k, v) ∷ e ∷ es) ((e.0, v) ∷ es) (e ∷ put R k v es)) (gap_later k e es i smaller)
      ∙ ap (λ l. e ∷ l)
      (gap_put k v es i (omega arith) (λ j d a b. smaller (suc j) d (omega arith) (omega arith))
      (λ j d a b. greater (suc j) d (omega arith) (omega arith)))

  index_first : (k : K) (e : K × V) (es : List (K × V)) → HoldsAt (λ p. R p.0 k ≡ Equal) (e ∷ es) 0 → R k e.0 ≡ Equal
  index_first k e es here = o.antisymm k e.0 ∙ ap ordering_reverse (here e)

  index_later : (k : K) (e : K × V) (es : List (K × V)) (i : ℕ) → T (below_all R e.0 es) → i < length es
      → HoldsAt (λ p. R p.0 k ≡ Equal) es i → R k e.0 ≡ Greater
  index_later k e es i below lt here =
      sym (o.congr (get_or es i e).0 k e.0 (here e)) ∙ o.antisymm _ _ ∙ ap ordering_reverse (below_at e.0 es below i e lt)

  -- in sorted pairs, the value at the index of a key is found
  pub index_find : (k : K) (es : List (K × V)) (i : ℕ) → T (is_sorted R es) → i < length es
      → HoldsAt (λ p. R p.0 k ≡ Equal) es i → (d : K × V) → find R k es ≡ Some (get_or es i d).1
  index_find k [] i sorted lt here d = absurd (omega arith)
  index_find k (e ∷ es) zero sorted lt here d = ap (λ r. cond (is_eq r) (Some e.1) (find R k es)) (index_first k e es here)
  index_find k (e ∷ es) (suc i) sorted lt here d =
      ap (λ r. cond (is_eq r) (Some e.1) (find R k es)) (index_later k e es i (first _ _ sorted) (omega arith) here)
      ∙ index_find k es i (second _ _ sorted) (omega arith) here d

  -- in sorted pairs, putting a value for a key that has an index replaces the value there
  pub index_put : (k : K) (v : V) (es : List (K × V)) (i : ℕ) → T (is_sorted R es) → i < length es
      → HoldsAt (λ p. R p.0 k ≡ Equal) es i → (d : K × V) → put R k v es ≡ set es i ((get_or es i d).0, v)
  index_put k v [] i sorted lt here d = absurd (omega arith)
  index_put k v (e ∷ es) zero sorted lt here d =
      ap (λ r. by_order r ((k, v) ∷ e ∷ es) ((e.0, v) ∷ es) (e ∷ put R k v es)) (index_first k e es here)
  index_put k v (e ∷ es) (suc i) sorted lt here d =
      ap (λ r. by_order r ((k, v) ∷ e ∷ es) ((e.0, v) ∷ es) (e ∷ put R k v es)) (index_later k e es i (first _ _ sorted) (omega arith) here)
      ∙ ap (λ l. e ∷ l) (index_put k v es i (second _ _ sorted) (omega arith) here d)

  -- the pairs of other keys
  pub others : K → List (K × V) → List (K × V)
  others k = where_key R (λ x. not (eq_by_cmp R k x))

  below_others : (x k : K) (es : List (K × V)) → R x k ≡ Equal → T (below_all R x es) → others k es ≡ es
  unfolding others
  below_others x k [] same below = refl
  below_others x k (e ∷ es) same below =
      ap (λ r. cond (not (is_eq r)) (e ∷ others k es) (others k es)) (sym (o.congr x k e.0 same) ∙ less _ (first _ _ below))
      ∙ ap (λ l. e ∷ l) (below_others x k es same (second _ _ below))

  -- in sorted pairs, the pairs of other keys are the pairs without the one at the index of the key
  pub index_others : (k : K) (es : List (K × V)) (i : ℕ) → T (is_sorted R es) → i < length es
      → HoldsAt (λ p. R p.0 k ≡ Equal) es i → others k es ≡ remove es i
  unfolding others
  index_others k [] i sorted lt here = absurd (omega arith)
  index_others k (e ∷ es) zero sorted lt here =
      ap (λ r. cond (not (is_eq r)) (e ∷ others k es) (others k es)) (index_first k e es here)
      ∙ below_others e.0 k es (here e) (first _ _ sorted)
  index_others k (e ∷ es) (suc i) sorted lt here =
      ap (λ r. cond (not (is_eq r)) (e ∷ others k es) (others k es)) (index_later k e es i (first _ _ sorted) (omega arith) here)
      ∙ ap (λ l. e ∷ l) (index_others k es i (second _ _ sorted) (omega arith) here)

  -- if the keys before an index are smaller than a key, and those from the index on are greater, all pairs have other keys
  pub gap_others : (k : K) (es : List (K × V)) (i : ℕ) → i ≤ length es → AllWithin (λ p. R p.0 k ≡ Less) es 0 i
      → AllWithin (λ p. R p.0 k ≡ Greater) es i (length es) → others k es ≡ es
  unfolding others
  gap_others k [] i le smaller greater = refl
  gap_others k (e ∷ es) zero le smaller greater =
      ap (λ r. cond (not (is_eq r)) (e ∷ others k es) (others k es)) (gap_first k e es greater)
      ∙ ap (λ l. e ∷ l)
      (gap_others k es zero (omega arith) (λ j d a b. absurd (omega arith))
      (λ j d a b. greater (suc j) d (omega arith) (omega arith)))
  gap_others k (e ∷ es) (suc i) le smaller greater =
      ap (λ r. cond (not (is_eq r)) (e ∷ others k es) (others k es)) (gap_later k e es i smaller)
      ∙ ap (λ l. e ∷ l)
      (gap_others k es i (omega arith) (λ j d a b. smaller (suc j) d (omega arith) (omega arith))
      (λ j d a b. greater (suc j) d (omega arith) (omega arith)))

  -- inserting into the map of sorted pairs puts a pair among them
  pub insert-from_sorted : (es : List (K × V)) (k : K) (v : V) → T (is_sorted R es)
      → map.insert (from_sorted {R = R} es) k v ≡ from_sorted (put R k v es)
  insert-from_sorted es k v h =
      same_entries_map _ _
      (entries-insert o _ k v ∙ ap (put R k v) (entries-from_sorted R es h)
      ∙ sym (entries-from_sorted R _ (is_sorted-put R o k v es h)))

  -- removing a key from the map of sorted pairs leaves the pairs of other keys
  pub remove-from_sorted : IsAntisymmetric R → (es : List (K × V)) (k : K) → T (is_sorted R es)
      → map.remove (from_sorted {R = R} es) k ≡ from_sorted (others k es)
  unfolding others
  remove-from_sorted same es k h = same_map o same _ _ (λ q.
      get-remove o _ k q
      ∙ ap (cond (eq_by_cmp R q k) None) (get-from_sorted R es q h)
      ∙ turned (eq_by_cmp R q k) None (find R q es)
      ∙ ap (λ b. cond (not b) (find R q es) None) ((eq_by_cmp_equiv o).symm q k)
      ∙ sym
      (get-from_sorted R _ q (is_sorted-where_key R _ es h)
      ∙ find-where_key R (λ x. not (eq_by_cmp R k x)) q
      (λ x t. ap (λ r. not (is_eq r)) (sym (alike_right o q x k t))) es))

  -- sorted pairs stay sorted without the pairs of one key
  pub is_sorted-others : (es : List (K × V)) (k : K) → T (is_sorted R es) → T (is_sorted R (others k es))
  unfolding others
  is_sorted-others es k h = is_sorted-where_key R _ es h

-- texts that compare as equal are equal
pub by_bytes-IsAntisymmetric : IsAntisymmetric by_bytes
by_bytes-IsAntisymmetric = slice_cmp-IsAntisymmetric nat_cmp-IsAntisymmetric

-- the map of no pairs is the empty map
pub no_pairs : {V : Type 0} (es : List (List ℕ × V)) → es ≡ [] → from_sorted {R = by_bytes} es ≡ map.empty
no_pairs es none =
    subst (λ l. from_sorted {R = by_bytes} l ≡ map.empty) (sym none)
    (empty_of_len _ (len-entries _ ∙ ap length (entries-from_sorted by_bytes [] tt)))

-- removing a missing name doesn't change a map
pub remove_absent : {V : Type 0} (m : ByText V) (k : List ℕ) → map.get m k ≡ None → m ≡ map.remove m k
remove_absent m k none = sym (same_map nat_list_cmp_total by_bytes-IsAntisymmetric _ _ (λ q.
    get-remove nat_list_cmp_total m k q
    ∙ elim (eq_by_cmp by_bytes q k) as (λ b. eq_by_cmp by_bytes q k ≡ b → cond b None (map.get m q) ≡ map.get m q) [
      | true ↦ λ e. sym (ap (map.get m) (by_bytes-IsAntisymmetric q k (tied _ (holds _ e))) ∙ none)
      | false ↦ λ e. refl
    ] refl))

-- `None` isn't `Some`
pub not_found : {V A : Type 0} {r : Option V} → r ≡ None → IsSome r → A
not_found none some = absurd (subst (λ o. IsSome o → ⊥) (sym none) (λ e. false≢true e) some)

-- the pairs of the map of sorted pairs, and their number
module _ {V : Type 0} (m : ByText V) (es : List (List ℕ × V)) (is : from_sorted es ≡ m) (sorted : IsSorted es) where
  -- the entries of the map of sorted pairs are these pairs
  pub entries_are : map.entries m ≡ es
  entries_are = subst (λ n. map.entries n ≡ es) is (entries-from_sorted by_bytes es (holds _ sorted))

  pub len_is : map.len m ≡ length es
  len_is = len-entries m ∙ ap length entries_are

-- the value of a name in the map of sorted pairs, and the map after an edit at the name's index or gap
module _ {V : Type 0} (m : ByText V) (es : List (List ℕ × V)) (is : from_sorted es ≡ m) (sorted : IsSorted es) (k : List ℕ) where
  h : T (is_sorted by_bytes es)
  h = holds _ sorted

  -- the map has the value that comparing the pairs one by one finds
  pub get_found : map.get m k ≡ find by_bytes k es
  unfolding h
  get_found = subst (λ n. map.get n k ≡ find by_bytes k es) is (get-from_sorted by_bytes es k h)

  module _ (i : ℕ) (at : IsIndexOf es k i) where
    pub get_at : (d : List ℕ × V) → map.get m k ≡ Some (get_or es i d).1
    unfolding h
    get_at d =
        subst (λ n. map.get n k ≡ Some (get_or es i d).1) is
        (get-from_sorted by_bytes es k h ∙ index_find nat_list_cmp_total k es i h at.in_range at.has_name d)

    pub set_sorted : (v : V) (d : List ℕ × V) → IsSorted (set es i ((get_or es i d).0, v))
    unfolding h
    set_sorted v d =
        subst IsSorted (index_put nat_list_cmp_total k v es i h at.in_range at.has_name d)
        (is_true _ (is_sorted-put by_bytes nat_list_cmp_total k v es h))

    pub set_at : (v : V) (d : List ℕ × V) → from_sorted (set es i ((get_or es i d).0, v)) ≡ map.insert m k v
    unfolding h
    set_at v d = subst (λ n. from_sorted (set es i ((get_or es i d).0, v)) ≡ map.insert n k v) is
        (ap from_sorted (sym (index_put nat_list_cmp_total k v es i h at.in_range at.has_name d))
        ∙ sym (insert-from_sorted nat_list_cmp_total es k v h))

    -- replacing the value of the pair at the index inserts it into the map
    pub set_written : (x : List ℕ × V) → x ≡ get_or es i x → (v : V) → map_of (set es i (x.0, v)) ≡ map.insert m k v
    set_written x here v = ap (λ p. map_of (set es i (p.0, v))) here ∙ set_at v x

    pub remove_sorted : IsSorted (remove es i)
    unfolding h
    remove_sorted =
        subst IsSorted (index_others nat_list_cmp_total k es i h at.in_range at.has_name)
        (is_true _ (is_sorted-others nat_list_cmp_total es k h))

    pub remove_at : from_sorted (remove es i) ≡ map.remove m k
    unfolding h
    remove_at = subst (λ n. from_sorted (remove es i) ≡ map.remove n k) is
        (ap from_sorted (sym (index_others nat_list_cmp_total k es i h at.in_range at.has_name))
        ∙ sym (remove-from_sorted nat_list_cmp_total by_bytes-IsAntisymmetric es k h))

  module _ (i : ℕ) (gap : IsGapFor es k i) where
    pub get_gap : map.get m k ≡ None
    unfolding h
    get_gap =
        subst (λ n. map.get n k ≡ None) is
        (get-from_sorted by_bytes es k h ∙ gap_find nat_list_cmp_total k es i gap.in_range gap.smaller gap.greater)

    pub insert_sorted : (v : V) → IsSorted (insert es i (k, v))
    unfolding h
    insert_sorted v =
        subst IsSorted (gap_put nat_list_cmp_total k v es i gap.in_range gap.smaller gap.greater)
        (is_true _ (is_sorted-put by_bytes nat_list_cmp_total k v es h))

    pub insert_gap : (v : V) → from_sorted (insert es i (k, v)) ≡ map.insert m k v
    unfolding h
    insert_gap v = subst (λ n. from_sorted (insert es i (k, v)) ≡ map.insert n k v) is
        (ap from_sorted (sym (gap_put nat_list_cmp_total k v es i gap.in_range gap.smaller gap.greater))
        ∙ sym (insert-from_sorted nat_list_cmp_total es k v h))

    pub remove_gap : m ≡ map.remove m k
    unfolding h
    remove_gap = subst (λ n. n ≡ map.remove n k) is
        (ap from_sorted (sym (gap_others nat_list_cmp_total k es i gap.in_range gap.smaller gap.greater))
        ∙ sym (remove-from_sorted nat_list_cmp_total by_bytes-IsAntisymmetric es k h))

-- a binary search ends at the index of a name, or at the gap for it
pub searched : {V : Type 0} (es : List (List ℕ × V)) → IsSorted es → (k : List ℕ) (r : Result ℕ ℕ)
    → IsSearchInRange r (length es) → IsBinarySearchResult (λ pair. by_bytes pair.0 k) es r
    → MatchResult r (IsIndexOf es k) (IsGapFor es k)
searched es sorted k (Ok i) lt here = record { in_range = lt; has_name = here }
searched es sorted k (Err i) le parted =
    let apart = parted (searchable_from_sorted nat_list_cmp_total (λ pair. pair.0) es k (ascends nat_list_cmp_total es (holds _ sorted))) in
    record { in_range = le; smaller = apart.0; greater = apart.1 }

-- two functions from the last value of a borrow to the value of its lender are equal if they agree on each last value
pub lent : {N A B C : Type 0} (n : N) (f g : A → B) → ((w : A) → f w ≡ g w) → ◌≡◌ {A = (N × (A → B)) ⊎ C} (inl (n, f)) (inl (n, g))
lent n f g same = λ i. inl (n, λ w. same w i)

-- a map is the map of its own pairs
pub of_its_entries : {V : Type 0} (m : ByText V) → map.from_entries (map.entries m) ≡ m
of_its_entries m =
    same_map nat_list_cmp_total by_bytes-IsAntisymmetric _ _
    (λ q. map.get-from_entries nat_list_cmp_total (map.entries m) q ∙ sym (map.get-entries m q))

-- inserting one more pair after the pairs `before` gives the map of all these pairs
pub one_more : {V : Type 0} (pairs before : List (List ℕ × V)) (name : List ℕ) (value : V)
    → map.insert {R = by_bytes} (map.from_entries (reverse before ++ pairs)) name value
    ≡ map.from_entries (reverse (before ++ (name, value) ∷ []) ++ pairs)
one_more pairs before name value = ap (λ l. map.from_entries (l ++ pairs)) (sym (reverse-append before ((name, value) ∷ [])))
