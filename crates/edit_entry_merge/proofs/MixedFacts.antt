-- The fields of the main version and their picks may be cut out of their texts, and the edits are in order.
use Rattle.std.proofs.Common.{◌≡◌, ℕ, Bool, true, false, cond, List, [], ◌∷◌, filter, map, append-nil, refl, ap, ◌∙◌, subst, Option, Some, None}
use Rattle.std.specs.List.{AllByRecursion}
use Rattle.bib_queries.specs.EqualValues.{are_equal_pieces}
use Rattle.bib_text.proofs.ListFacts.{found_has}
use Rattle.bib_syntax.specs.Reading.{EntryReading, FieldReading}
use Rattle.edit_entries.specs.Changes.{EntryChange, edits_of_entries, edits_of_entry}
use Rattle.edit_entries.specs.Documents.{Document, has_name}
use Rattle.edit_entries.specs.EditList.{AreEditsInOrder}
use Rattle.edit_entries.specs.Placed.{IsPlaced}
use Rattle.edit_entries.proofs.AllFacts.{all_placed}
use Rattle.edit_entries.proofs.ChangesFacts.{changes_in_order}
use Rattle.edit_entries.proofs.PartFacts.{AreEntriesIn, file_in}
use Rattle.edit_entries.proofs.SetFacts.{names_in, signs_in}
use Rattle.edit_entry_merge.specs.Picks.{FieldPick, pick, pick_instead}
use Rattle.edit_entry_merge.specs.Versions.{Version, named}
use Rattle.edit_entry_merge.specs.Working.{AreEditable, IsPickPlaced, IsReadVersion}

-- the document of a version
abbrev pub document_of : (v : Version) → IsReadVersion v → Document
document_of v r = record { text = v.text; says = r.says }

-- the only entry of a version has what each entry of its document has
pub only_has : (P : EntryReading → Type 0) (v : Version) (r : IsReadVersion v) → AllByRecursion P r.says.entries → P v.entry
only_has P v r all = (subst (AllByRecursion P) r.only all).0

pub all_values : (v : Version) → IsReadVersion v → AllByRecursion (IsPlaced v.text) v.entry.fields
all_values v r = only_has (λ e. AllByRecursion (IsPlaced v.text) e.fields) v r (all_placed (document_of v r) r.read)

pub editable : (v : Version) → IsReadVersion v → AreEditable v.text v.entry.fields
editable v r =
    let order = subst (AreEntriesIn v.text 0) r.only (file_in v.text refl r.read) in
    record {
      values = all_values v r;
      signs = signs_in v.text v.entry.kind.end order.0 v.entry.fields order.3 (all_values v r);
      names = names_in v.text v.entry.kind.end order.0 v.entry.fields order.3;
    }

pub filtered : {A : Type 0} (P : A → Type 0) (test : A → Bool) (xs : List A) → AllByRecursion P xs → AllByRecursion P (filter test xs)
filtered P test [] all = tt
filtered P test (x ∷ xs) all = by_case (test x) (filtered P test xs all.1)
  where
    by_case : (b : Bool) → AllByRecursion P (filter test xs) → AllByRecursion P (cond b (x ∷ filter test xs) (filter test xs))
    by_case true rest = (all.0, rest)
    by_case false rest = rest

instead_placed : (other : List ℕ) (f : FieldReading) (o : Option FieldReading) → ((g : FieldReading) → o ≡ Some g → IsPlaced other g)
    → IsPickPlaced other (pick_instead f o)
instead_placed other f None placed = tt
instead_placed other f (Some g) placed = by_case (are_equal_pieces f.value.pieces g.value.pieces)
  where
    by_case : (b : Bool) → IsPickPlaced other (cond b FieldPick.keep (FieldPick.copy g))
    by_case true = tt
    by_case false = placed g refl

pick_placed : (takes : List ℕ → Bool) (other : Version) (f : FieldReading) → AllByRecursion (IsPlaced other.text) other.entry.fields
    → IsPickPlaced other.text (pick takes other f)
pick_placed takes other f all = by_case (takes f.name.text)
  where
    by_case : (b : Bool) → IsPickPlaced other.text (cond b (pick_instead f (named f.name.text other)) FieldPick.keep)
    by_case true =
        instead_placed other.text f (named f.name.text other)
        (λ g is. found_has (IsPlaced other.text) (has_name f.name.text) other.entry.fields g all is)
    by_case false = tt

pub picks_placed : (takes : List ℕ → Bool) (other : Version) (fs : List FieldReading)
    → AllByRecursion (IsPlaced other.text) other.entry.fields
    → AllByRecursion (IsPickPlaced other.text) (map (pick takes other) fs)
picks_placed takes other [] all = tt
picks_placed takes other (f ∷ fs) all = (pick_placed takes other f all, picks_placed takes other fs all)

-- the edits of a change of a version's entry are those of the change of its document
pub document_edits : (v : Version) (r : IsReadVersion v) (change : EntryChange)
    → edits_of_entries (λ e. change) v.text r.says.entries ≡ edits_of_entry v.text v.entry change
document_edits v r change = ap (edits_of_entries (λ e. change) v.text) r.only ∙ append-nil (edits_of_entry v.text v.entry change)

pub in_order : (v : Version) → IsReadVersion v → (change : EntryChange) → AreEditsInOrder v.text 0 (edits_of_entry v.text v.entry change)
in_order v r change =
    subst (AreEditsInOrder v.text 0) (document_edits v r change) (changes_in_order (document_of v r) (λ e. change) r.read r.utf8)
