-- An edit of a field of several entries at once: when its changes can be made.
use Rattle.std.proofs.Common.{◌≡◌, ℕ, length, Result, Ok, Err, Bool, true, false, cond, List, [], ◌∷◌, ◌++◌, map, refl, sym, ap, ◌∙◌, subst, append-nil}
use Rattle.std.specs.Borrow.{Bor}
use Rattle.std.specs.BTreeSet.{BTreeSet}
use Rattle.std.specs.List.{AllByRecursion}
use Rattle.std.specs.Prelude.{IfErr}
use Rattle.bib_queries.specs.Sets.{is_in_set}
use Rattle.bib_syntax.specs.Reading.{EntryReading, FieldReading}
use Rattle.edit_entries.specs.Changes.{EntryChange, FieldChange, edits_of_entry, edits_of_fields, field_before, name_edit}
use Rattle.edit_entries.specs.Edits.{Edit}
use Rattle.edit_entries.specs.Documents.{CanBeName, Document, IsDocument, has_name}
use Rattle.edit_entries.specs.FieldEdits.{CantBeEdited, FieldEditIsRefused, HasFitValue, first_start, edit_name, entry_edited_by, has_named, name_change, names_changed, new_field_first, selected_edited, unchanged}
use Rattle.edit_entries.specs.FieldTexts.{EditTextIsRefused, HaveFieldsPlaced}
use Rattle.edit_entries.specs.Layouts.{new_sign}
use Rattle.edit_entries.specs.Placed.{IsNamePlaced, IsPlaced}
use Rattle.edit_entries.specs.Setting.{CanBeNewName, SetValue, field_with_value, new_value, value_of, values_set, white_before}
use Rattle.edit_entries.specs.declared.errors.EditError.{EditError}
use Rattle.edit_entries.specs.declared.errors.EditError.TheVariants.{UnknownKey, KeyIsThere, NotAKey, NotAName, NotInBraces, NotBare, DefinitionIsThere, NoFieldLeft, OutOfMemory}
use Rattle.edit_entries.specs.declared.field_edits.FieldEdit.{FieldEdit}
use Rattle.edit_entries.specs.declared.field_edits.FieldEdit.TheVariants.{Set, Add, Rename}
use Rattle.edit_entries.proofs.AllFacts.{all_placed}
use Rattle.edit_entries.proofs.ChangesFacts.{CanChange, CanEntryChange, CanFieldsChange}
use Rattle.edit_entries.proofs.EntryChangeFacts.{can_be_kept, no_edits}
use Rattle.edit_entries.proofs.FitFacts.{fit_read}
use Rattle.edit_entries.proofs.NewValueFacts.{CanBeRead}
use Rattle.edit_entries.proofs.PartFacts.{AreEntriesIn, file_in}
use Rattle.edit_entries.proofs.SetFacts.{first_within, names_in, put_can, set_can, signs_in}

-- ---- byte offsets of fields

entries_placed : (text : List ℕ) (at : ℕ) (es : List EntryReading) → AreEntriesIn text at es
    → AllByRecursion (λ e. AllByRecursion (IsPlaced text) e.fields) es → AllByRecursion (HaveFieldsPlaced text) es
entries_placed text at [] order all = tt
entries_placed text at (e ∷ es) order all = (
  record {
    names = names_in text e.kind.end order.0 e.fields order.3;
    values = all.0;
    signs = signs_in text e.kind.end order.0 e.fields order.3 all.0;
  },
  entries_placed text order.0 es order.4 all.1,
)

-- the names and values of a document's fields, and the texts between them, may be cut out of its text
pub fields_placed : (d : Document) → IsDocument d → AllByRecursion (HaveFieldsPlaced d.text) d.says.entries
fields_placed d read = entries_placed d.text 0 d.says.entries (file_in d.text refl read) (all_placed d read)

-- ---- the changes

unchanged_can : (e : EntryReading) → CanEntryChange e unchanged
unchanged_can e = record { kind = λ name is. absurd (cc); fields = can_be_kept e.fields }

field_first_can : (text name : List ℕ) (value : SetValue) (e : EntryReading) (fs : List FieldReading) → e.fields ≡ fs
    → AllByRecursion (IsNamePlaced text) e.fields → CanBeNewName name → CanBeRead (new_value value)
    → CanEntryChange e (new_field_first text name value fs)
field_first_can text name value e [] are placed can_name can_value = unchanged_can e
field_first_can text name value e (first ∷ others) are placed can_name can_value =
    put_can text name value e first others are can_name can_value (first_within text e.fields first others placed are)

name_can : (new : List ℕ) (following : List FieldReading) (b : Bool) → CanBeName new
    → CanChange following (cond b (FieldChange.renamed new) FieldChange.kept)
name_can new following true can = can
name_can new following false can = tt

names_can : (old new : List ℕ) (fs : List FieldReading) → CanBeName new → CanFieldsChange fs (map (name_change old new) fs)
names_can old new [] can = tt
names_can old new (f ∷ fs) can = (name_can new fs (has_name old f) can, names_can old new fs can)

either_can : (e : EntryReading) (b : Bool) (x y : EntryChange) → CanEntryChange e x → CanEntryChange e y → CanEntryChange e (cond b x y)
either_can e true x y first second = first
either_can e false x y first second = second

edited_can : (text : List ℕ) (definitions : List FieldReading) (at : ℕ) (edit : FieldEdit) (e : EntryReading)
    → AllByRecursion (IsNamePlaced text) e.fields
    → CanBeNewName (edit_name edit) → HasFitValue definitions at edit → CanEntryChange e (entry_edited_by text edit e)
edited_can text definitions at (Set name value) e placed can_name can_value =
    let read = fit_read definitions at (value_of value) can_value in
    either_can e (has_named name.now e) (values_set name.now (value_of value) e) (new_field_first text name.now (value_of value) e.fields)
    (set_can name.now (value_of value) e (λ there. read))
    (field_first_can text name.now (value_of value) e e.fields refl placed can_name read)
edited_can text definitions at (Add name value) e placed can_name can_value =
    either_can e (has_named name.now e) unchanged (new_field_first text name.now (value_of value) e.fields) (unchanged_can e)
    (field_first_can text name.now (value_of value) e e.fields refl placed can_name (fit_read definitions at (value_of value) can_value))
edited_can text definitions at (Rename old new) e placed can_name can_value =
    either_can e (has_named new.now e) unchanged (names_changed old.now new.now e) (unchanged_can e)
    (record { kind = λ name is. absurd (cc); fields = names_can old.now new.now e.fields can_name.name })

-- ---- the edits

-- the edit of an entry that gets a new field before its first one
pub field_first_edits : (text name : List ℕ) (value : SetValue) (fs : List FieldReading) (first : FieldReading) (others : List FieldReading)
    → fs ≡ first ∷ others
    → edits_of_fields text fs (new_field_first text name value fs).fields
    ≡ name_edit first (field_before (field_with_value name value) (new_sign text name first (first ∷ others))
    (white_before text first.name.start)) ∷ []
field_first_edits text name value fs first others are =
    let lead : List ℕ = field_before (field_with_value name value) (new_sign text name first (first ∷ others))
    (white_before text first.name.start) in
    ap (λ l. edits_of_fields text l (new_field_first text name value l).fields) are
    ∙ ap (λ es. name_edit first lead ∷ es) (no_edits text others)

-- an entry that already has a field with the new name gets no edits
pub names_kept : (text old new : List ℕ) (e : EntryReading) (edits : List Edit) → has_named new e ≡ true
    → edits ≡ edits ++ edits_of_entry text e (cond (has_named new e) unchanged (names_changed old new e))
names_kept text old new e edits has =
    sym
    (ap (λ b. edits ++ edits_of_entry text e (cond b unchanged (names_changed old new e))) has
    ∙ ap (λ es. edits ++ es) (no_edits text e.fields) ∙ append-nil edits)

-- ---- all changes

-- each entry whose fields may be cut out can have its change by the edit. The name can be a new one, and the value can be written
pub selected_can : (text : List ℕ) (definitions : List FieldReading) (at : ℕ) (keys : BTreeSet (Bor (List ℕ))) (edit : FieldEdit)
    (es : List EntryReading)
    → AllByRecursion (HaveFieldsPlaced text) es → CanBeNewName (edit_name edit) → HasFitValue definitions at edit
    → AllByRecursion (λ e. CanEntryChange e (selected_edited text keys edit e)) es
selected_can text definitions at keys edit [] placed can_name can_value = tt
selected_can text definitions at keys edit (e ∷ es) placed can_name can_value = (
  either_can e (is_in_set keys e.key.text) (entry_edited_by text edit e) unchanged
      (edited_can text definitions at edit e placed.0.names can_name can_value) (unchanged_can e),
  selected_can text definitions at keys edit es placed.1 can_name can_value,
)

-- if the text of an edit may be refused with an error, the edit may be refused with it
pub edit_refused : (d : Document) (selected : List ℕ → Bool) (edit : FieldEdit) (error : EditError)
    → EditTextIsRefused d.says.abbreviations (first_start selected (length d.text) d.says.entries) edit error
    → FieldEditIsRefused d selected edit error
edit_refused d selected edit UnknownKey why = why
edit_refused d selected edit KeyIsThere why = why
edit_refused d selected edit NotAKey why = why
edit_refused d selected edit NotAName why = why
edit_refused d selected edit NotInBraces why = record { because = why.because; unfit = why.unfit }
edit_refused d selected edit NotBare why = record { because = why.because; unfit = why.unfit }
edit_refused d selected edit DefinitionIsThere why = why
edit_refused d selected edit NoFieldLeft why = why
edit_refused d selected edit OutOfMemory why = tt

pub edit_is_refused : {S : Type 0} (r : Result S EditError) (d : Document) (selected : List ℕ → Bool) (edit : FieldEdit)
    → IfErr r (EditTextIsRefused d.says.abbreviations (first_start selected (length d.text) d.says.entries) edit)
    → IfErr r (FieldEditIsRefused d selected edit)
edit_is_refused (Ok new) d selected edit why = _
edit_is_refused (Err error) d selected edit why = edit_refused d selected edit error why

-- ---- the same entries

start_same : (f g : List ℕ → Bool) → ((key : List ℕ) → f key ≡ g key) → (other : ℕ) (es : List EntryReading)
    → first_start f other es ≡ first_start g other es
start_same f g same other [] = refl
start_same f g same other (e ∷ es) =
    ap (λ b. cond b e.start (first_start f other es)) (same e.key.text)
    ∙ ap (λ n. cond (g e.key.text) e.start n) (start_same f g same other es)

unfit_same : (d : Document) (f g : List ℕ → Bool) → ((key : List ℕ) → f key ≡ g key) → (edit : FieldEdit) (error : EditError)
    → CantBeEdited d f edit error → CantBeEdited d g edit error
unfit_same d f g same edit error why = record {
  because = why.because;
  unfit =
      subst (λ n. HasFitValue d.says.abbreviations n edit → ⊥) (start_same f g same (length d.text) d.says.entries) why.unfit;
}

refused_same : (d : Document) (f g : List ℕ → Bool) → ((key : List ℕ) → f key ≡ g key) → (edit : FieldEdit) (error : EditError)
    → FieldEditIsRefused d f edit error → FieldEditIsRefused d g edit error
refused_same d f g same edit UnknownKey why = why
refused_same d f g same edit KeyIsThere why = why
refused_same d f g same edit NotAKey why = why
refused_same d f g same edit NotAName why = why
refused_same d f g same edit NotInBraces why = unfit_same d f g same edit NotInBraces why
refused_same d f g same edit NotBare why = unfit_same d f g same edit NotBare why
refused_same d f g same edit DefinitionIsThere why = why
refused_same d f g same edit NoFieldLeft why = why
refused_same d f g same edit OutOfMemory why = tt

-- two tests that select the same entries refuse an edit for the same reasons
pub same_refused : {S : Type 0} (r : Result S EditError) (d : Document) (f g : List ℕ → Bool) → ((key : List ℕ) → f key ≡ g key)
    → (edit : FieldEdit) → IfErr r (FieldEditIsRefused d f edit) → IfErr r (FieldEditIsRefused d g edit)
same_refused (Ok new) d f g same edit why = _
same_refused (Err error) d f g same edit why = refused_same d f g same edit error why
