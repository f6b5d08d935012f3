-- The graph of references is in range if each name points to an entry.
use Rattle.std.proofs.Common.{◌≡◌, ℕ, ◌<◌, List, [], ◌∷◌, length, refl, sym, subst, Option, Some, None}
use Rattle.std.specs.List.{All, filter_map, cons_option}
use Rattle.std.specs.FinMap as by_name
use Rattle.std.proofs.lemmas.List.{length-map}
use Rattle.std.proofs.lemmas.List.Elements.{All-cons, All-nil}
use Rattle.bib_entry.specs.declared.entry.Entry.{Entry}
use Rattle.bib_collections.specs.Graph.{IsInRange}
use Rattle.bib_inheritance.specs.References.{reference_names, references}
use Rattle.bib_inheritance.specs.EntryTexts.{fields_of}
use Rattle.bib_collections.specs.Names.{AreIndicesBelow}
use Rattle.bib_collections.specs.Sorted.{ByText}
use Rattle.bib_inheritance.specs.Resolving.{graph_by}

-- the indices of names that point below `n` are below `n`
indices_below : (n : ℕ) (names : ByText ℕ) → AreIndicesBelow n names → (texts : List (List ℕ))
    → All (λ r. r < n) (filter_map (by_name.get names) texts)
indices_below n names below [] = All-nil (λ r. r < n)
indices_below n names below (t ∷ texts) =
    one (by_name.get names t) (filter_map (by_name.get names) texts) (below t) (indices_below n names below texts) where
      one : (o : Option ℕ) (rest : List ℕ) → ((index : ℕ) → o ≡ Some index → index < n) → All (λ r. r < n) rest
          → All (λ r. r < n) (cons_option o rest)
      one None rest lies all = all
      one (Some p) rest lies all = All-cons (λ r. r < n) p rest (lies p refl) all

-- if all names point below `n`, the references of entries are below `n`
rows_below : (n : ℕ) (names : ByText ℕ) → AreIndicesBelow n names → (own : List Entry)
    → All (λ refs. All (λ r. r < n) refs) (graph_by names own)
rows_below n names below [] = All-nil (λ refs. All (λ r. r < n) refs)
rows_below n names below (e ∷ own) =
    All-cons (λ refs. All (λ r. r < n) refs) (references names (fields_of e.fields)) (graph_by names own)
    (indices_below n names below (reference_names (fields_of e.fields))) (rows_below n names below own)

-- the graph of entries is in range if each name points to an entry
pub graph_in_range : (names : ByText ℕ) (own : List Entry) → AreIndicesBelow (length own) names → IsInRange (graph_by names own)
graph_in_range names own below =
    subst (λ n. All (λ refs. All (λ r. r < n) refs) (graph_by names own))
    (sym (length-map own (λ (e : Entry). references names (fields_of e.fields))))
    (rows_below (length own) names below own)
