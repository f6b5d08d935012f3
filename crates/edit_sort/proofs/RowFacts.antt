-- Rows of children with one more reference, and rows without the references of indices on cycles.
use Rattle.std.proofs.Common.{◌≡◌, ◌≢◌, inl, inr, ℕ, ◌+◌, ◌<◌, ◌≤◌, Bool, true, false, cond, List, [], ◌∷◌, ◌++◌, length, set, take, refl, sym, ap, ◌∙◌, subst, arith}
use Rattle.std.specs.Prelude.{◌==◌, ◌&&◌, ◌||◌}
use Rattle.std.specs.List.{list_any}
use Rattle.std.proofs.lemmas.Bool.{cases_lt, eq-eqb}
use Rattle.std.proofs.lemmas.Bool.Decides.{eqb_tells}
use Rattle.std.proofs.lemmas.List.{get_or-set_other, get_or-set_same, get_or-take, get_or_past, length-set, length-take-le, take_all}
use Rattle.std.proofs.lemmas.List.Folds.{list_any-append}
use Rattle.std.proofs.Math.Bool.{or-false}
use Rattle.bib_collections.specs.Graph.{Graph, refs_of}
use Rattle.bib_collections.specs.Search.{is_marked}
use Rattle.edit_sort.specs.Ranks.{AreCyclesCut}

-- ---- one more child

-- the rows after a child was added to the row of an index
pub child_added : (graph : Graph) (at child : ℕ) → at < length graph → (test : ℕ → Bool) (index : ℕ)
    → list_any test (refs_of (set graph at (refs_of graph at ++ child ∷ [])) index)
    ≡ (list_any test (refs_of graph index) || ((at == index) && test child))
child_added graph at child within test index =
    elim (eqb_tells at index) [
      | inl same ↦
          ap (λ n. list_any test (refs_of (set graph at (refs_of graph at ++ child ∷ [])) n)) (sym same.1)
          ∙ ap (list_any test) (get_or-set_same graph at (refs_of graph at ++ child ∷ []) [] within)
          ∙ list_any-append test (refs_of graph at) (child ∷ [])
          ∙ ap (λ b. list_any test (refs_of graph at) || b) (or-false (test child))
          ∙ ap (λ n. list_any test (refs_of graph n) || test child) same.1
          ∙ ap (λ b. list_any test (refs_of graph index) || (b && test child)) (sym (eq-eqb at index same.1))
      | inr other ↦
          ap (list_any test)
          (get_or-set_other graph at index (refs_of graph at ++ child ∷ []) [] (λ is. other.1 (sym is)))
          ∙ sym (or-false (list_any test (refs_of graph index)))
          ∙ ap (λ b. list_any test (refs_of graph index) || (b && test child)) (sym other.0)
    ]

-- ---- rows without the references of indices on cycles

-- the references of the marked indices below `i` are removed
pub record AreFirstCut (graph : Graph) (marks : List Bool) (i : ℕ) (left : Graph) : Type 0 where
  pub same_length : length left ≡ length graph
  pub each : (index : ℕ) → refs_of left index ≡ cond (is_marked (take i marks) index) [] (refs_of graph index)

pub cut_none : (graph : Graph) (marks : List Bool) → AreFirstCut graph marks 0 graph
cut_none graph marks = record { same_length = refl; each = λ index. refl }

-- the index `i` is marked among the first `i + 1` marks exactly if it is marked
marked_here : (marks : List Bool) (i : ℕ) → is_marked (take (i + 1) marks) i ≡ is_marked marks i
marked_here marks i = get_or-take (i + 1) marks i false (omega arith)

not_yet : (marks : List Bool) (i : ℕ) → i < length marks → is_marked (take i marks) i ≡ false
not_yet marks i within = get_or_past (take i marks) i false (omega (arith, length-take-le i marks (omega arith)))

marked_other : (marks : List Bool) (i index : ℕ) → i < length marks → index ≢ i
    → is_marked (take (i + 1) marks) index ≡ is_marked (take i marks) index
marked_other marks i index within other =
    elim (cases_lt index i) [
      | inl below ↦
          get_or-take (i + 1) marks index false (omega arith) ∙ sym (get_or-take i marks index false below)
      | inr above ↦
          let far : i + 1 ≤ index = omega (arith, other) in
          get_or_past (take (i + 1) marks) index false (omega (arith, length-take-le (i + 1) marks (omega arith)))
          ∙ sym (get_or_past (take i marks) index false (omega (arith, length-take-le i marks (omega arith))))
    ]

pub cut_more : (graph : Graph) (marks : List Bool) (i : ℕ) (left new : Graph) → i < length marks → length marks ≡ length graph
    → new ≡ cond (is_marked marks i) (set left i []) left → AreFirstCut graph marks i left → AreFirstCut graph marks (i + 1) new
cut_more graph marks i left new within size is h =
    subst (AreFirstCut graph marks (i + 1)) (sym is) (by_mark (is_marked marks i) refl)
  where
    by_mark : (m : Bool) → is_marked marks i ≡ m → AreFirstCut graph marks (i + 1) (cond m (set left i []) left)
    by_mark true marked = record {
      same_length = length-set left i [] ∙ h.same_length;
      each = λ index. elim (eqb_tells index i) [
        | inl same ↦
            ap (refs_of (set left i [])) same.1 ∙ get_or-set_same left i [] [] (omega (arith, h.same_length))
            ∙ ap (λ m. cond m [] (refs_of graph index))
            (sym (ap (is_marked (take (i + 1) marks)) same.1 ∙ marked_here marks i ∙ marked))
        | inr other ↦
            get_or-set_other left i index [] [] other.1 ∙ h.each index
            ∙ ap (λ m. cond m [] (refs_of graph index)) (sym (marked_other marks i index within other.1))
      ];
    }
    by_mark false marked = record {
      same_length = h.same_length;
      each = λ index. elim (eqb_tells index i) [
        | inl same ↦
            h.each index
            ∙ ap (λ m. cond m [] (refs_of graph index))
            (ap (is_marked (take i marks)) same.1 ∙ not_yet marks i within
            ∙ sym (ap (is_marked (take (i + 1) marks)) same.1 ∙ marked_here marks i ∙ marked))
        | inr other ↦
            h.each index ∙ ap (λ m. cond m [] (refs_of graph index)) (sym (marked_other marks i index within other.1))
      ];
    }

pub cut_all : (graph : Graph) (marks : List Bool) (i : ℕ) (left : Graph) → length marks ≤ i → AreFirstCut graph marks i left
    → AreCyclesCut graph marks left
cut_all graph marks i left all h = record {
  same_length = h.same_length;
  each = λ index. h.each index ∙ ap (λ l. cond (is_marked l index) [] (refs_of graph index)) (take_all i marks all);
}
