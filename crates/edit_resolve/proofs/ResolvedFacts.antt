-- The changes that resolve a document can be made.
use Rattle.std.proofs.Common.{◌≡◌, ℕ, Bool, true, false, cond, List, [], ◌∷◌, map, refl, Option, Some, None}
use Rattle.std.specs.Prelude.{◌||◌}
use Rattle.std.specs.List.{AllByRecursion, list_any}
use Rattle.std.specs.Str.{IsCharBoundary}
use Rattle.bib_text.proofs.ListFacts.{all_weaker}
use Rattle.bib_syntax.specs.Reading.{EntryReading, FieldReading}
use Rattle.edit_entries.specs.Changes.{FieldChange}
use Rattle.edit_entries.specs.Cuts.{ArePiecesCut, IsPieceCut}
use Rattle.edit_entries.specs.Documents.{CanBeName, Document, IsDocument}
use Rattle.edit_entries.specs.Placed.{IsPlaced}
use Rattle.edit_entries.proofs.AllFacts.{OfFields, all_placed, fields_weaker}
use Rattle.edit_entries.proofs.ChangesFacts.{CanChange, CanEntryChange, CanFieldsChange}
use Rattle.edit_entries.proofs.NewFieldFacts.{CanBePut, spaced_signs}
use Rattle.edit_entries.proofs.PartFacts.{AreEntriesIn, AreFieldsIn, file_in}
use Rattle.edit_entries.proofs.WhiteBeforeFacts.{before_white}
use Rattle.edit_strings.proofs.ElementFacts.{IsElement, IsValue, can_be_read, file_stands, is_cut}
use Rattle.bib_tables.specs.declared.mechanics.EntryType.{EntryType}
use Rattle.edit_resolve.specs.Inheritance.{name_by_crossref, read_name}
use Rattle.edit_resolve.specs.Parents.{is_resolved, parents}
use Rattle.edit_resolve.specs.Resolved.{Named, all_fields, as_itself, field_resolutions, given_fields_by, inherited, is_read_as, last_change, new_field, own_change, replacement, resolution}
use Rattle.edit_resolve.specs.Working.{AreFieldsCut, IsNamedCut}
use Rattle.edit_resolve.proofs.GivenFacts.{all_found}
use Rattle.edit_resolve.proofs.InheritedFacts.{all_giving, all_inherited}
use Rattle.edit_resolve.proofs.NameFacts.{names_can, new_name_can}

-- ---- places

-- the name of a field begins at a boundary of characters
abbrev IsNamed : List ℕ → FieldReading → Type 0
IsNamed text f = IsCharBoundary text f.name.start

fields_named : (text : List ℕ) (at end : ℕ) (fs : List FieldReading) → AreFieldsIn text at fs end → AllByRecursion (IsNamed text) fs
fields_named text at end [] order = tt
fields_named text at end (f ∷ fs) order = (order.1.name.start, fields_named text f.value.end end fs order.2)

entries_named : (text : List ℕ) (at : ℕ) (es : List EntryReading) → AreEntriesIn text at es → OfFields (IsNamed text) es
entries_named text at [] order = tt
entries_named text at (e ∷ es) order = (fields_named text e.kind.end order.0 e.fields order.3, entries_named text order.0 es order.4)

module _ (d : Document) (read : IsDocument d) where
  named : OfFields (IsNamed d.text) d.says.entries
  named = entries_named d.text 0 d.says.entries (file_in d.text refl read)

  values : OfFields (IsValue d.text) d.says.entries
  values = (file_stands d.text refl read).entries

  -- the fields of a document may be cut out of its text
  pub document_cut : AreFieldsCut d.text d.says.entries
  document_cut =
      fields_weaker (IsNamedCut d.text) (IsValue d.text) (λ f. IsNamedCut d.text f × ArePiecesCut d.text f)
      (λ f stretch value. (
        stretch,
        all_weaker (IsElement d.text) (IsPieceCut d.text) (is_cut d.text) f.value.pieces value.all,
      )) d.says.entries
      (fields_weaker (IsPlaced d.text) (IsNamed d.text) (IsNamedCut d.text) (λ f placed name. record { placed = placed; name = name })
      d.says.entries (all_placed d read) named) values

  -- ---- fields

  -- an inherited field can be inserted
  abbrev CanBeGiven : Named → Type 0
  CanBeGiven n = CanBePut (new_field d.text n)

  own_given : OfFields (λ f. CanBeGiven (as_itself f)) d.says.entries
  own_given =
      fields_weaker (λ f. CanBeName f.name.text) (IsValue d.text) (λ f. CanBeGiven (as_itself f))
      (λ f name value. record { name = name; value = can_be_read d.text f.value.pieces value.some value.all }) d.says.entries
      (names_can d read) values

  again : (n : Named) (type child : EntryType) (name : List ℕ) → CanBeGiven n → name_by_crossref type child (read_name n.name) ≡ Some name
      → CanBeGiven (record { name = name; field = n.field })
  again n type child name can is = record { name = new_name_can type child (read_name n.name) name is; value = can.value }

  new_given : (e : EntryReading) → AllByRecursion CanBeGiven (inherited d.says.entries e)
  new_given e = all_inherited CanBeGiven again d.says.entries own_given e

  replacing : (e : EntryReading) (f : FieldReading) (n : Named) → replacement d.says.entries e f ≡ Some n → CanBeGiven n
  replacing e f n is =
      all_found CanBeGiven (is_read_as (read_name f.name.text)) (given_fields_by (all_fields d.says.entries) (parents d.says.entries e)) n
      (all_giving CanBeGiven again d.says.entries own_given e) is

  -- ---- changes

  puts : (ns : List Named) → AllByRecursion CanBeGiven ns → AllByRecursion CanBePut (map (new_field d.text) ns)
  puts [] all = tt
  puts (n ∷ ns) all = (all.0, puts ns all.1)

  last_can : (new : List Named) (f : FieldReading) (following : List FieldReading) → AllByRecursion CanBeGiven new → IsNamed d.text f
      → CanChange following (last_change d.text new f following)
  last_can (n ∷ ns) f following all name = (spaced_signs, all.0, puts ns all.1, before_white d.text f.name.start name.0)
  last_can [] f [] all name = tt
  last_can [] f (g ∷ gs) all name = (g, gs, refl)

  own_can : (o : Option Named) (following : List FieldReading) → ((n : Named) → o ≡ Some n → CanBeGiven n)
      → CanChange following (own_change d.text o)
  own_can None following can = tt
  own_can (Some n) following can = (spaced_signs, can n refl, tt, tt)

  change_can : (resolved : FieldReading → Bool) (b : Bool) (own : Option Named) (new : List Named) (f : FieldReading)
      (following : List FieldReading) → AllByRecursion CanBeGiven new → ((n : Named) → own ≡ Some n → CanBeGiven n) → IsNamed d.text f
      → CanChange following
      (cond b (cond (list_any resolved following) FieldChange.removed (last_change d.text new f following)) (own_change d.text own))
  change_can resolved false own new f following all can name = own_can own following can
  change_can resolved true own new f [] all can name = last_can new f [] all name
  change_can resolved true own new f (g ∷ gs) all can name = by_case (resolved g || list_any resolved gs)
    where
      by_case : (more : Bool) → CanChange (g ∷ gs) (cond more FieldChange.removed (last_change d.text new f (g ∷ gs)))
      by_case true = (g, gs, refl)
      by_case false = last_can new f (g ∷ gs) all name

  changes_can : (resolved : FieldReading → Bool) (instead : FieldReading → Option Named) (new : List Named) (fs : List FieldReading)
      → AllByRecursion CanBeGiven new → ((f : FieldReading) (n : Named) → instead f ≡ Some n → CanBeGiven n)
      → AllByRecursion (IsNamed d.text) fs → CanFieldsChange fs (field_resolutions d.text resolved instead new fs)
  changes_can resolved instead new [] all can names = tt
  changes_can resolved instead new (f ∷ fs) all can names =
      (change_can resolved (resolved f) (instead f) new f fs all (can f) names.0, changes_can resolved instead new fs all can names.1)

  -- the changes of a document's entries can be made
  pub resolution_can : AllByRecursion (λ e. CanEntryChange e (resolution d.text d.says.entries e)) d.says.entries
  resolution_can =
      all_weaker (λ e. AllByRecursion (IsNamed d.text) e.fields) (λ e. CanEntryChange e (resolution d.text d.says.entries e))
      (λ e names. record {
        kind = λ name is. let none : ⊥ = cc in absurd none;
        fields =
            changes_can (is_resolved d.says.entries) (replacement d.says.entries e) (inherited d.says.entries e) e.fields (new_given e)
            (replacing e) names;
      }) d.says.entries named
