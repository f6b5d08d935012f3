-- The parents of entries are entries, so the rows of the code are their graph.
use Rattle.std.proofs.Common.{◌≡◌, ℕ, ◌<◌, Bool, true, false, cond, List, [], ◌∷◌, ◌++◌, get_or, length, map, reverse, refl, sym, ap, ◌∙◌, subst, Option, Some, None}
use Rattle.std.specs.List.{All, AllByRecursion, cons_option, filter_map}
use Rattle.std.proofs.lemmas.List.{length-map, reverse-append}
use Rattle.std.proofs.lemmas.List.Elements.{All-from_recursion, All-map}
use Rattle.bib_text.proofs.ListFacts.{all_append, all_reverse}
use Rattle.std.specs.Global.{Vec}
use Rattle.bib_collections.specs.Graph.{IsInRange}
use Rattle.bib_collections.specs.Rows.{rows}
use Rattle.bib_syntax.specs.Reading.{EntryReading, FieldReading}
use Rattle.edit_resolve.specs.Parents.{field_keys, field_parents, is_resolved, linked, parent, parent_graph, parent_index, parents}
use Rattle.edit_resolve.specs.Uninherited.{reference_parents}
use Rattle.edit_resolve.specs.Working.{parent_lists}
use Rattle.edit_resolve.specs.declared.parents.Link.{Link}
use Rattle.edit_resolve.specs.declared.parents.Link.TheVariants.{Crossref, Xdata}
use Rattle.edit_resolve.specs.declared.parents.Parent.{Parent}
use Rattle.edit_resolve.proofs.FileFacts.{parent_within}

-- mapping a mapped list is mapping the list by both functions
map_map : {A B C : Type 0} (g : B → C) (f : A → B) (xs : List A) → map g (map f xs) ≡ map (λ x. g (f x)) xs
map_map g f [] = refl
map_map g f (x ∷ xs) = ap (λ l. g (f x) ∷ l) (map_map g f xs)

module _ (entries : List EntryReading) where
  -- the index of a parent is less than the number of entries
  abbrev IsEntry : Parent → Type 0
  IsEntry p = p.index < length entries

  keys_within : (link : Link) (keys : List (List ℕ))
      → AllByRecursion IsEntry (map (parent link) (filter_map (parent_index entries link) keys))
  keys_within link [] = tt
  keys_within link (key ∷ keys) =
      by_case (parent_index entries link key) (λ i is. parent_within entries link key i is) (keys_within link keys)
    where
      by_case : (o : Option ℕ) → ((i : ℕ) → o ≡ Some i → i < length entries)
          → AllByRecursion IsEntry (map (parent link) (filter_map (parent_index entries link) keys))
          → AllByRecursion IsEntry (map (parent link) (cons_option o (filter_map (parent_index entries link) keys)))
      by_case None within rest = rest
      by_case (Some i) within rest = (within i refl, rest)

  linked_within : (link : Link) (fs : List FieldReading) → AllByRecursion IsEntry (linked entries link fs)
  linked_within link [] = tt
  linked_within link (f ∷ fs) =
      all_append IsEntry (field_parents entries link f) (linked entries link fs) (keys_within link (field_keys link f))
      (linked_within link fs)

  pub parents_within : (e : EntryReading) → All IsEntry (parents entries e)
  parents_within e =
      All-from_recursion IsEntry (parents entries e)
      (all_reverse IsEntry (linked entries Crossref e.fields ++ linked entries Xdata e.fields)
      (all_append IsEntry (linked entries Crossref e.fields) (linked entries Xdata e.fields) (linked_within Crossref e.fields)
      (linked_within Xdata e.fields)))

  -- the indices of the parents that a resolved reference names are less than the number of entries
  pub references_within : (f : FieldReading) → AllByRecursion IsEntry (reference_parents entries f)
  references_within f = by_case (is_resolved entries f)
    where
      by_case : (b : Bool) → AllByRecursion IsEntry (cond b (field_parents entries Crossref f ++ field_parents entries Xdata f) [])
      by_case true =
          all_append IsEntry (field_parents entries Crossref f) (field_parents entries Xdata f)
          (keys_within Crossref (field_keys Crossref f)) (keys_within Xdata (field_keys Xdata f))
      by_case false = tt

  pub graph_size : length (parent_graph entries) ≡ length entries
  graph_size = length-map entries (λ e. map (λ p. p.index) (parents entries e))

  pub graph_in_range : IsInRange (parent_graph entries)
  graph_in_range =
      subst (λ n. All (λ refs. All (λ r. r < n) refs) (parent_graph entries)) (sym graph_size)
      (All-map (λ refs. All (λ r. r < length entries) refs) (λ e. map (λ p. p.index) (parents entries e)) entries
      (λ k d within.
      All-map (λ r. r < length entries) (λ p. p.index) (parents entries (get_or entries k d)) (parents_within (get_or entries k d))))

  -- the rows that the code computes are the graph of the parents
  pub graph_known : (found lent : List (Vec Parent)) (refs shown : List (Vec ℕ)) → parent_lists found ≡ map (parents entries) entries
      → lent ≡ found → rows refs ≡ map (λ ps. map (λ p. p.index) ps.items) lent → shown ≡ refs → rows shown ≡ parent_graph entries
  graph_known found lent refs shown are same refer shown_is =
      ap rows shown_is ∙ refer
      ∙ ap (map (λ ps. map (λ p. p.index) ps.items)) same
      ∙ sym (map_map (λ ps. map (λ p. p.index) ps) (λ ps. ps.items) found)
      ∙ ap (map (λ ps. map (λ p. p.index) ps)) are
      ∙ map_map (λ ps. map (λ p. p.index) ps) (parents entries) entries
