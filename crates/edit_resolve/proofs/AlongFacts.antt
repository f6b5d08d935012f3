-- The fields of all entries, computed in a topological order.
use Rattle.std.proofs.Common.{◌≡◌, ◌⊎◌, inl, inr, ℕ, zero, suc, ◌+◌, ◌<◌, ◌≤◌, List, [], ◌∷◌, ◌++◌, length, map, take, get_or, set, refl, sym, ap, ◌∙◌, subst, arith, Result, Ok, Err}
use Rattle.std.specs.Prelude.{IfErr, IsErrAnd}
use Rattle.std.specs.List.{All, Contains, flat_map}
use Rattle.std.specs.Global.{Vec}
use Rattle.std.proofs.lemmas.Bool.{cases_lt, le-ltb, lt-ltb}
use Rattle.std.proofs.lemmas.Bool.Decides.{eqb_tells}
use Rattle.std.proofs.lemmas.List.{length-map, take_more, take_all}
use Rattle.std.proofs.lemmas.List.Elements.{All-contains, All-map, Contains-append_cases, Contains-get_or}
use Rattle.bib_text.proofs.ListFacts.{cons_cases, contains_more}
use Rattle.bib_collections.specs.Graph.{Graph, IsTopologicalOrder, refs_of}
use Rattle.bib_collections.specs.Rows.{IsOrderError}
use Rattle.bib_collections.specs.declared.worklist.OrderError.{OrderError}
use Rattle.bib_collections.specs.declared.worklist.OrderError.TheVariants as order
use Rattle.bib_collections.proofs.Order.{contains_from_count}
use Rattle.bib_collections.proofs.Work.{as_one, times_from_contains}
use Rattle.bib_syntax.specs.Reading.{EntryReading}
use Rattle.edit_resolve.specs.Errors.{resolve_error}
use Rattle.edit_resolve.specs.Inheritance.{read_name}
use Rattle.edit_resolve.specs.Parents.{entry_at, no_reading, parent_graph, parents, type_of}
use Rattle.edit_resolve.specs.Resolved.{IsResolveError, Named, all_fields, fields_along, given_fields_by, in_place, inherited_by, new_fields, offers}
use Rattle.edit_resolve.specs.Working.{AreAlong, fields_at, parent_lists, named_of, with_inherited}
use Rattle.edit_resolve.specs.declared.errors.ResolveError.{ResolveError}
use Rattle.edit_resolve.specs.declared.gathering.Named.{Named as NamedField}
use Rattle.edit_resolve.specs.declared.parents.Parent.{Parent}
use Rattle.edit_resolve.proofs.GivenFacts.{given_alike}
use Rattle.edit_resolve.proofs.OrderFacts.{order_within}
use Rattle.edit_resolve.proofs.ParentFacts.{graph_size, parents_within}

-- parents with the same fields offer the same fields
offered_alike : (entries : List EntryReading) (e : EntryReading) (fields others : ℕ → List Named) (ps : List Parent)
    → ((i : ℕ) → Contains (map (λ p. p.index) ps) i → fields i ≡ others i)
    → flat_map (λ p. offers p.link (type_of (entry_at entries p.index)) (type_of e) (fields p.index)) ps
    ≡ flat_map (λ p. offers p.link (type_of (entry_at entries p.index)) (type_of e) (others p.index)) ps
offered_alike entries e fields others [] same = refl
offered_alike entries e fields others (p ∷ ps) same =
    ap (λ l. offers p.link (type_of (entry_at entries p.index)) (type_of e) l
    ++ flat_map (λ p. offers p.link (type_of (entry_at entries p.index)) (type_of e) (fields p.index)) ps)
    (same p.index (zero, omega arith, refl))
    ∙ ap (λ l. offers p.link (type_of (entry_at entries p.index)) (type_of e) (others p.index) ++ l)
    (offered_alike entries e fields others ps (λ i there. same i (contains_more p.index i (map (λ p. p.index) ps) there)))

-- the element of a mapped list at an index is the image of the element there
map_at : {A B : Type 0} (f : A → B) (xs : List A) (i : ℕ) (a : A) (b : B) → i < length xs → get_or (map f xs) i b ≡ f (get_or xs i a)
map_at f [] i a b within = absurd (omega (arith, within))
map_at f (x ∷ xs) zero a b within = refl
map_at f (x ∷ xs) (suc i) a b within = map_at f xs i a b (omega (arith, within))

-- the entries at the first `k` indices of an order have their fields along at least `k` references
abbrev pub IsAlongTo : List EntryReading → List ℕ → ℕ → (ℕ → List Named) → Type 0
IsAlongTo entries order k fields = (i most : ℕ) → Contains (take k order) i → k ≤ most → fields i ≡ fields_along entries most i

module _ (entries : List EntryReading) (order : List ℕ) (sorted : IsTopologicalOrder (parent_graph entries) order) where
  graph_row : (index : ℕ) → index < length entries
      → refs_of (parent_graph entries) index ≡ map (λ p. p.index) (parents entries (entry_at entries index))
  graph_row index within = map_at (λ e. map (λ p. p.index) (parents entries e)) entries index no_reading [] within

  -- each index of the order is less than the number of entries
  pub turn_within : (k : ℕ) → k < length order → get_or order k 0 < length entries
  turn_within k within = by_case (cases_lt (get_or order k 0) (length (parent_graph entries)))
    where
      by_case : (get_or order k 0 < length (parent_graph entries)) ⊎ (length (parent_graph entries) ≤ get_or order k 0)
          → get_or order k 0 < length entries
      by_case (inl below) = omega (arith, below, graph_size entries)
      by_case (inr past) = absurd (omega (
        arith,
        times_from_contains (get_or order k 0) order (Contains-get_or order k 0 within),
        sorted.once (get_or order k 0),
        as_one _ _ (le-ltb (get_or order k 0) (length (parent_graph entries)) past),
      ))

  -- the own and inherited fields of the next entry of the order are its fields along at least `k + 1` references
  next_along : (k index : ℕ) (fields : ℕ → List Named) → k < length order → get_or order k 0 ≡ index → index < length entries
      → IsAlongTo entries order k fields → (most : ℕ) → k + 1 ≤ most
      → with_inherited entries fields (parents entries (entry_at entries index)) index ≡ fields_along entries most index
  next_along k index fields before is within known zero some = absurd (omega (arith, some))
  next_along k index fields before is within known (suc most) some =
      let e = entry_at entries index in
      let same : (i : ℕ) → Contains (map (λ p. p.index) (parents entries e)) i → fields i ≡ fields_along entries most i =
      λ i there.
      known i most
      (All-contains (λ r. Contains (take k order) r) (map (λ p. p.index) (parents entries e)) i
      (subst (λ l. All (λ r. Contains (take k order) r) l) (ap (refs_of (parent_graph entries)) is ∙ graph_row index within)
      (sorted.in_order k before)) there) (omega (arith, some)) in
      ap (λ g. map (in_place g) e.fields ++ inherited_by entries fields e)
      (given_alike fields (fields_along entries most) (parents entries e) same)
      ∙ ap
      (λ l.
      map (in_place (given_fields_by (fields_along entries most) (parents entries e))) e.fields
      ++ new_fields (map (λ f. read_name f.name.text) e.fields) l)
      (offered_alike entries e fields (fields_along entries most) (parents entries e) same)

  -- if the next entry of the order gets its fields and the others keep theirs, the first `k + 1` entries have their fields
  pub along_more : (k index : ℕ) (fields others : ℕ → List Named) → k < length order → index ≡ get_or order k index
      → index < length entries → IsAlongTo entries order k fields
      → others index ≡ with_inherited entries fields (parents entries (entry_at entries index)) index
      → ((i : ℕ) → (i ≡ index → ⊥) → others i ≡ fields i) → IsAlongTo entries order (k + 1) others
  along_more k index fields others before is within known new kept i most there some =
      elim (eqb_tells i index) [
        | inl same ↦
            subst (λ n. others n ≡ fields_along entries most n) (sym same.1)
            (new ∙ next_along k index fields before (at_default order k index before ∙ sym is) within known most some)
        | inr other ↦
            kept i other.1
            ∙ known i most (earlier (Contains-append_cases (take k order) (get_or order k index ∷ []) i
            (subst (λ l. Contains l i) (take_more order k index before) there)) other.1) (omega (arith, some))
      ]
    where
      at_default : (xs : List ℕ) (n d : ℕ) → n < length xs → get_or xs n 0 ≡ get_or xs n d
      at_default [] n d below = absurd (omega (arith, below))
      at_default (x ∷ xs) zero d below = refl
      at_default (x ∷ xs) (suc n) d below = at_default xs n d (omega (arith, below))

      earlier : Contains (take k order) i ⊎ Contains (get_or order k index ∷ []) i → (i ≡ index → ⊥) → Contains (take k order) i
      earlier (inl there) other = there
      earlier (inr last) other = elim (cons_cases (get_or order k index) i [] last) [
        | inl same ↦ absurd (other (sym same ∙ sym is))
        | inr none ↦ absurd (omega (arith, none.1))
      ]

  -- after the whole order, all entries have their fields
  pub along_all : (fields : ℕ → List Named) → IsAlongTo entries order (length order) fields → AreAlong entries fields
  along_all fields known index most within enough =
      known index most
      (subst (λ l. Contains l index) (sym (take_all (length order) order (omega arith)))
      (contains_from_count index order
      (omega (arith, sorted.once index, as_one _ _ (lt-ltb index (length (parent_graph entries)) (omega (arith, within, size)))))))
      (omega (arith, order_within (parent_graph entries) order sorted, size, enough))
    where
      size : length (parent_graph entries) ≡ length entries
      size = length-map entries (λ e. map (λ p. p.index) (parents entries e))

-- a row that replaces another one is at its index
pub row_set : (found : List (Vec NamedField)) (index : ℕ) (row : Vec NamedField) → index < length found
    → fields_at (set found index row) index ≡ map named_of row.items
row_set found index row within =
    here found index row within
  where
    here : (rows : List (Vec NamedField)) (n : ℕ) (r : Vec NamedField) → n < length rows
        → get_or (map (λ x. map named_of x.items) (set rows n r)) n [] ≡ map named_of r.items
    here [] n r below = absurd (omega (arith, below))
    here (x ∷ xs) zero r below = refl
    here (x ∷ xs) (suc n) r below = here xs n r (omega (arith, below))

pub row_kept : (found : List (Vec NamedField)) (index : ℕ) (row : Vec NamedField) (i : ℕ) → (i ≡ index → ⊥)
    → fields_at (set found index row) i ≡ fields_at found i
row_kept [] index row i other = refl
row_kept (x ∷ xs) zero row zero other = absurd (other refl)
row_kept (x ∷ xs) zero row (suc i) other = refl
row_kept (x ∷ xs) (suc index) row zero other = refl
row_kept (x ∷ xs) (suc index) row (suc i) other = row_kept xs index row i (λ same. other (ap suc same))

-- the row at the index of an entry has the parents of this entry
pub row_found : (entries : List EntryReading) (rows : List (Vec Parent)) (i : ℕ)
    → parent_lists rows ≡ map (parents entries) entries → i < length entries
    → get_or (parent_lists rows) i [] ≡ parents entries (entry_at entries i)
row_found entries rows i are within =
    ap (λ l. get_or l i []) are ∙ map_at (parents entries) entries i no_reading [] within

pub rows_count : (entries : List EntryReading) (rows : List (Vec Parent)) → parent_lists rows ≡ map (parents entries) entries
    → length rows ≡ length entries
rows_count entries rows are =
    sym (length-map rows (λ r. r.items)) ∙ ap length are ∙ length-map entries (parents entries)

-- an error of the order of the parents' graph is an error of resolving
pub graph_error : {A : Type 0} (entries : List EntryReading) (graph : Graph) (r : Result A ResolveError) (e : OrderError)
    → graph ≡ parent_graph entries → IsErrAnd r (λ x. x ≡ resolve_error e) → IsOrderError graph e → IfErr r (IsResolveError entries)
graph_error entries graph (Ok x) e same gives known = tt
graph_error entries graph (Err x) e same gives known =
    subst (IsResolveError entries) (sym gives) (by_case e (subst (λ g. IsOrderError g e) same known))
  where
    by_case : (o : OrderError) → IsOrderError (parent_graph entries) o → IsResolveError entries (resolve_error o)
    by_case order.OutOfMemory at = tt
    by_case (order.Cycle index) at = at

-- if these are the fields of all entries, the parents of an entry give it the same fields
pub giving_known : (entries : List EntryReading) (fields : ℕ → List Named) (ps : List Parent) (e : EntryReading)
    → ps ≡ parents entries e → AreAlong entries fields
    → given_fields_by fields ps ≡ given_fields_by (all_fields entries) (parents entries e)
giving_known entries fields ps e are known =
    ap (given_fields_by fields) are
    ∙ given_alike fields (all_fields entries) (parents entries e)
    (λ i there.
    known i (length entries)
    (All-contains (λ n. n < length entries) (map (λ p. p.index) (parents entries e)) i
    (All-map (λ n. n < length entries) (λ p. p.index) (parents entries e) (parents_within entries e)) there) (omega arith))
