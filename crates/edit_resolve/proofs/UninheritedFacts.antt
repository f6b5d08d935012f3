-- Fields of parents that entries lack.
use Rattle.std.proofs.Common.{◌≡◌, ℕ, ◌+◌, ◌<◌, Bool, true, false, cond, List, [], ◌∷◌, ◌++◌, length, map, take, get_or, refl, sym, ap, ◌∙◌, append_assoc, append-nil}
use Rattle.std.specs.Prelude.{bytes_eq, not, ◌&&◌, ◌||◌}
use Rattle.std.specs.List.{AllByRecursion, filter, flat_map, list_any}
use Rattle.std.proofs.lemmas.List.{map-append, take_more}
use Rattle.std.proofs.lemmas.List.Concat.{flat_map-append}
use Rattle.std.proofs.lemmas.List.Elements.{filter-append, filter_agree}
use Rattle.std.proofs.lemmas.List.Folds.{list_any-append}
use Rattle.bib_text.proofs.ListFacts.{mapped_more}
use Rattle.bib_syntax.specs.Reading.{EntryReading, FieldReading}
use Rattle.bib_tables.specs.Requirements.{is_one_of}
use Rattle.bib_text.proofs.BoolFacts.{cond_last}
use Rattle.edit_resolve.specs.Inheritance.{read_name}
use Rattle.edit_resolve.specs.Parents.{entry_at, type_of}
use Rattle.edit_resolve.specs.Resolved.{Named, is_read_as}
use Rattle.edit_resolve.specs.Uninherited.{Uninherited, is_lacking, is_offered, lacking_names, linking_fields, reference_parents, uninherited_by, uninherited_in, uninherited_of}
use Rattle.edit_resolve.specs.Working.{named_of}
use Rattle.edit_resolve.specs.declared.gathering.Named.{Named as NamedField}
use Rattle.edit_resolve.specs.declared.parents.Parent.{Parent}
use Rattle.edit_resolve.proofs.ParentFacts.{references_within}

-- the test of a field that isn't a linking field and isn't offered is whether no field of the entry has its name
pub lacks : (linking offered has found : Bool) → linking ≡ false → offered ≡ false → found ≡ has
    → not found ≡ (not linking && not offered && not has)
lacks linking offered has found no_link no_offer same =
    ap not same ∙ sym (ap (λ b. not b && not offered && not has) no_link ∙ ap (λ b. not b && not has) no_offer)

-- after the name of one more field is added if it is lacking, the names are those of the lacking fields so far
pub names_more : (lacks : Named → Bool) (xs : List NamedField) (i : ℕ) (x : NamedField) → i < length xs → x ≡ get_or xs i x
    → (old new : List (List ℕ)) → old ≡ map (λ n. n.name) (filter lacks (map named_of (take i xs)))
    → new ≡ old ++ map (λ n. n.name) (filter lacks (named_of x ∷ []))
    → new ≡ map (λ n. n.name) (filter lacks (map named_of (take (i + 1) xs)))
names_more lacks xs i x within is old new known added =
    added ∙ ap (λ l. l ++ map (λ n. n.name) (filter lacks (named_of x ∷ []))) known
    ∙ sym (map-append (λ n. n.name) (filter lacks (map named_of (take i xs))) (filter lacks (named_of x ∷ [])))
    ∙ ap (map (λ n. n.name)) (sym (filter-append lacks (map named_of (take i xs)) (named_of x ∷ [])))
    ∙ ap (λ l. map (λ n. n.name) (filter lacks l)) (sym (mapped_more named_of xs i x within is))

-- a set has the names of the fields up to the next index after it gets the name of the next field
pub read_more : (xs : List NamedField) (i : ℕ) (x : NamedField) (low q : List ℕ) (has : Bool) → i < length xs → x ≡ get_or xs i x
    → low ≡ read_name (named_of x).name → has ≡ list_any (is_read_as q) (map named_of (take i xs))
    → cond (bytes_eq low q) true has ≡ list_any (is_read_as q) (map named_of (take (i + 1) xs))
read_more xs i x low q has within is read known =
    ap (cond (bytes_eq low q) true) known ∙ cond_last (bytes_eq low q) (list_any (is_read_as q) (map named_of (take i xs)))
    ∙ ap (λ l. list_any (is_read_as q) (map named_of (take i xs)) || (bytes_eq l q || false)) read
    ∙ sym (list_any-append (is_read_as q) (map named_of (take i xs)) (named_of x ∷ []))
    ∙ ap (list_any (is_read_as q)) (sym (mapped_more named_of xs i x within is))

-- after the results for one more parent are added, those for the parents up to the next index are added
pub parents_more : (each : Parent → List Uninherited) (ps : List Parent) (i : ℕ) (d : Parent) → i < length ps
    → (old new all : List Uninherited)
    → old ≡ all ++ flat_map each (take i ps) → new ≡ old ++ each (get_or ps i d) → new ≡ all ++ flat_map each (take (i + 1) ps)
parents_more each ps i d within old new all before added =
    added ∙ ap (λ l. l ++ each (get_or ps i d)) before
    ∙ append_assoc all (flat_map each (take i ps)) (each (get_or ps i d))
    ∙ ap (λ l. all ++ (flat_map each (take i ps) ++ l)) (sym (append-nil (each (get_or ps i d))))
    ∙ ap (λ l. all ++ l) (sym (flat_map-append each (take i ps) (get_or ps i d ∷ [])))
    ∙ ap (λ l. all ++ flat_map each l) (sym (take_more ps i d within))

module _ (entries : List EntryReading) (fields others : ℕ → List Named) (has had : List ℕ → Bool)
    (known : (i : ℕ) → i < length entries → fields i ≡ others i) (same : (name : List ℕ) → has name ≡ had name) (e : EntryReading) where
  names_alike : (p : Parent) → p.index < length entries → lacking_names entries fields has e p ≡ lacking_names entries others had e p
  names_alike p within =
      let lacks = is_lacking p.link (type_of (entry_at entries p.index)) (type_of e) in
      ap (map (λ n. n.name))
      (filter_agree (lacks has) (lacks had)
      (λ n.
      ap (λ b.
      not (is_one_of linking_fields (read_name n.name)) && not (is_offered p.link (type_of (entry_at entries p.index)) (type_of e) n)
      && not b) (same (read_name n.name))) (fields p.index)
      ∙ ap (filter (lacks had)) (known p.index within))

  parents_alike : (f : FieldReading) (ps : List Parent) → AllByRecursion (λ p. p.index < length entries) ps
      → flat_map (λ p. uninherited_of e f (entry_at entries p.index) (lacking_names entries fields has e p)) ps
      ≡ flat_map (λ p. uninherited_of e f (entry_at entries p.index) (lacking_names entries others had e p)) ps
  parents_alike f [] all = refl
  parents_alike f (p ∷ ps) all =
      ap (λ l. uninherited_of e f (entry_at entries p.index) l
      ++ flat_map (λ p. uninherited_of e f (entry_at entries p.index) (lacking_names entries fields has e p)) ps)
      (names_alike p all.0)
      ∙ ap (λ l. uninherited_of e f (entry_at entries p.index) (lacking_names entries others had e p) ++ l) (parents_alike f ps all.1)

  fields_alike : (fs : List FieldReading)
      → flat_map (uninherited_by entries fields has e) fs ≡ flat_map (uninherited_by entries others had e) fs
  fields_alike [] = refl
  fields_alike (f ∷ fs) =
      ap (λ l. l ++ flat_map (uninherited_by entries fields has e) fs)
      (parents_alike f (reference_parents entries f) (references_within entries f))
      ∙ ap (λ l. uninherited_by entries others had e f ++ l) (fields_alike fs)

  -- an entry lacks the same fields if the parents have the same fields, and its fields have the same names
  pub uninherited_alike : uninherited_in entries fields has e ≡ uninherited_in entries others had e
  uninherited_alike = fields_alike e.fields
