-- A property of all own fields that renaming keeps is one of each inherited field.
use Rattle.std.proofs.Common.{◌≡◌, ℕ, zero, suc, Bool, true, false, cond, List, [], ◌∷◌, ◌++◌, length, map, refl, Option, Some, None}
use Rattle.std.specs.List.{AllByRecursion, filter, flat_map}
use Rattle.bib_text.proofs.ListFacts.{all_append}
use Rattle.bib_syntax.specs.Reading.{EntryReading, FieldReading}
use Rattle.bib_tables.specs.declared.mechanics.EntryType.{EntryType}
use Rattle.edit_entries.proofs.AllFacts.{OfFields}
use Rattle.edit_resolve.specs.Inheritance.{keeps_name, name_by_crossref, passes_on, read_name}
use Rattle.edit_resolve.specs.Parents.{entry_at, parents, type_of}
use Rattle.std.specs.Prelude.{unwrap_or}
use Rattle.edit_resolve.specs.Resolved.{Named, all_fields, as_itself, fields_along, given_fields, given_fields_by, in_place, inherited, inherited_by, is_read_as, is_ruled_out, new_fields, offers, renamed, substitute}
use Rattle.edit_resolve.specs.declared.parents.Link.{Link}
use Rattle.edit_resolve.specs.declared.parents.Link.TheVariants.{Crossref, Xdata}
use Rattle.edit_resolve.specs.declared.parents.Parent.{Parent}
use Rattle.edit_resolve.proofs.GivenFacts.{all_found}

module _ (P : Named → Type 0)
    (again : (n : Named) (type child : EntryType) (name : List ℕ) → P n → name_by_crossref type child (read_name n.name) ≡ Some name
    → P (record { name = name; field = n.field })) where
  all_filter : (test : Named → Bool) (ns : List Named) → AllByRecursion P ns → AllByRecursion P (filter test ns)
  all_filter test [] all = tt
  all_filter test (n ∷ ns) all = by_case (test n) (all_filter test ns all.1)
    where
      by_case : (b : Bool) → AllByRecursion P (filter test ns) → AllByRecursion P (cond b (n ∷ filter test ns) (filter test ns))
      by_case true rest = (all.0, rest)
      by_case false rest = rest

  all_new : (taken : List (List ℕ)) (ns : List Named) → AllByRecursion P ns → AllByRecursion P (new_fields taken ns)
  all_new taken [] all = tt
  all_new taken (n ∷ ns) all =
      by_case (is_ruled_out taken (read_name n.name)) (all_new taken ns all.1) (all_new (taken ++ read_name n.name ∷ []) ns all.1)
    where
      by_case : (b : Bool) → AllByRecursion P (new_fields taken ns)
          → AllByRecursion P (new_fields (taken ++ read_name n.name ∷ []) ns)
          → AllByRecursion P (cond b (new_fields taken ns) (n ∷ new_fields (taken ++ read_name n.name ∷ []) ns))
      by_case true same more = same
      by_case false same more = (all.0, more)

  all_renamed : (type child : EntryType) (ns : List Named) → AllByRecursion P ns
      → AllByRecursion P (flat_map (λ n. renamed n (name_by_crossref type child (read_name n.name))) ns)
  all_renamed type child [] all = tt
  all_renamed type child (n ∷ ns) all =
      all_append P (renamed n (name_by_crossref type child (read_name n.name))) _
      (by_case (name_by_crossref type child (read_name n.name)) (λ name is. again n type child name all.0 is))
      (all_renamed type child ns all.1)
    where
      by_case : (o : Option (List ℕ)) → ((name : List ℕ) → o ≡ Some name → P (record { name = name; field = n.field }))
          → AllByRecursion P (renamed n o)
      by_case None can = tt
      by_case (Some name) can = (can name refl, tt)

  all_offers : (link : Link) (type child : EntryType) (ns : List Named) → AllByRecursion P ns → AllByRecursion P (offers link type child ns)
  all_offers Xdata type child ns all = all_filter (λ n. passes_on (read_name n.name)) ns all
  all_offers Crossref type child ns all =
      all_append P (flat_map (λ n. renamed n (name_by_crossref type child (read_name n.name))) ns)
      (filter (λ n. keeps_name type child (read_name n.name)) ns) (all_renamed type child ns all)
      (all_filter (λ n. keeps_name type child (read_name n.name)) ns all)

  module _ (entries : List EntryReading) (own : OfFields (λ f. P (as_itself f)) entries) where
    all_own : (fs : List FieldReading) → AllByRecursion (λ f. P (as_itself f)) fs → AllByRecursion P (map as_itself fs)
    all_own [] all = tt
    all_own (f ∷ fs) all = (all.0, all_own fs all.1)

    all_given : (fields : ℕ → List Named) (ps : List Parent) → ((i : ℕ) → AllByRecursion P (fields i))
        → AllByRecursion P (given_fields_by fields ps)
    all_given fields [] all = tt
    all_given fields (p ∷ ps) all =
        all_append P (given_fields p.link (fields p.index)) _ (by_link p.link (fields p.index) (all p.index)) (all_given fields ps all)
      where
        by_link : (link : Link) (ns : List Named) → AllByRecursion P ns → AllByRecursion P (given_fields link ns)
        by_link Xdata ns is = all_filter (λ n. passes_on (read_name n.name)) ns is
        by_link Crossref ns is = tt

    all_in_place : (instead : List Named) (fs : List FieldReading) → AllByRecursion P instead → AllByRecursion (λ f. P (as_itself f)) fs
        → AllByRecursion P (map (in_place instead) fs)
    all_in_place instead [] given all = tt
    all_in_place instead (f ∷ fs) given all = (
      by_case (substitute instead f) (λ n is. all_found P (is_read_as (read_name f.name.text)) instead n given is),
      all_in_place instead fs given all.1,
    )
      where
        by_case : (o : Option Named) → ((n : Named) → o ≡ Some n → P n) → P (unwrap_or o (as_itself f))
        by_case (Some n) holds = holds n refl
        by_case None holds = all.0

    entry_own : (es : List EntryReading) (index : ℕ) → OfFields (λ f. P (as_itself f)) es
        → AllByRecursion (λ f. P (as_itself f)) (entry_at es index).fields
    entry_own [] index all = tt
    entry_own (e ∷ es) zero all = all.0
    entry_own (e ∷ es) (suc index) all = entry_own es index all.1

    all_offered : (fields : ℕ → List Named) (child : EntryType) (ps : List Parent) → ((i : ℕ) → AllByRecursion P (fields i))
        → AllByRecursion P (flat_map (λ p. offers p.link (type_of (entry_at entries p.index)) child (fields p.index)) ps)
    all_offered fields child [] all = tt
    all_offered fields child (p ∷ ps) all =
        all_append P (offers p.link (type_of (entry_at entries p.index)) child (fields p.index)) _
        (all_offers p.link (type_of (entry_at entries p.index)) child (fields p.index) (all p.index)) (all_offered fields child ps all)

    all_by : (fields : ℕ → List Named) (e : EntryReading) → ((i : ℕ) → AllByRecursion P (fields i))
        → AllByRecursion P (inherited_by entries fields e)
    all_by fields e all =
        all_new (map (λ f. read_name f.name.text) e.fields) _ (all_offered fields (type_of e) (parents entries e) all)

    all_along : (most index : ℕ) → AllByRecursion P (fields_along entries most index)
    all_along zero index = all_own (entry_at entries index).fields (entry_own entries index own)
    all_along (suc most) index =
        let e = entry_at entries index in
        all_append P (map (in_place (given_fields_by (fields_along entries most) (parents entries e))) e.fields) _
        (all_in_place (given_fields_by (fields_along entries most) (parents entries e)) e.fields
        (all_given (fields_along entries most) (parents entries e) (λ i. all_along most i)) (entry_own entries index own))
        (all_by (fields_along entries most) e (λ i. all_along most i))

    pub all_inherited : (e : EntryReading) → AllByRecursion P (inherited entries e)
    all_inherited e = all_by (all_fields entries) e (λ i. all_along (length entries) i)

    pub all_giving : (e : EntryReading) → AllByRecursion P (given_fields_by (all_fields entries) (parents entries e))
    all_giving e = all_given (all_fields entries) (parents entries e) (λ i. all_along (length entries) i)
