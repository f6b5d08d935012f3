-- The text of a document with changed entries, and its reading.
use Rattle.std.proofs.Common.{◌≡◌, ℕ, suc, ◌≤◌, List, [], ◌∷◌, ◌++◌, length, map, refl, sym, ap, ◌∙◌, subst, arith, append_assoc, length-append, Option, Some, None, Result, Ok, Err}
use Rattle.std.specs.Prelude.{IfOk, slice_get}
use Rattle.std.specs.List.{AllByRecursion}
use Rattle.std.specs.Str.{IsUtf8}
use Rattle.bib_syntax.specs.Reading.{FieldReading, EntryReading, FileReading}
use Rattle.bib_syntax.specs.Grammar.{BlockKind, IsRawReading, block_kind}
use Rattle.bib_text.proofs.ListFacts.{get_here}
use Rattle.edit_entries.specs.Changes.{EntryChange, FieldChange, IsChanged, IsReadPlaceless, IsTrimmed, edits_of_entries, edits_of_field, edits_of_fields, entry_changed, field_before, field_changed, field_stretch, field_text_by, fields_changed, file_changed, more_field_texts, name_edit, part_edits, text_changed, value_stretch_edit, with_other_text}
use Rattle.edit_entries.specs.Documents.{CanBeName, Document, IsDocument}
use Rattle.edit_entries.specs.Edits.{Edit, moved_field, moved_place, placeless}
use Rattle.edit_entries.specs.Placed.{IsPlaced}
use Rattle.edit_entries.specs.EditList.{AreEditsInOrder}
use Rattle.edit_entries.proofs.AgreementFacts.{agrees_self}
use Rattle.edit_entries.proofs.AllFacts.{OfFields, all_placed, fields_weaker}
use Rattle.edit_entries.proofs.BeforeFacts.{preceded_put}
use Rattle.edit_entries.proofs.EditFacts.{moved_before}
use Rattle.edit_entries.proofs.FieldNameFacts.{name_exchanged_read, name_stretch, with_name}
use Rattle.edit_entries.proofs.FieldMadeFacts.{IsPut, field_gone, field_made}
use Rattle.edit_entries.proofs.MadeFacts.{Made, MadeFrom, kind_made, less_made, less_made_from, of_entries, stays_made}
use Rattle.edit_entries.proofs.NewFieldFacts.{AreSigns, CanBePut, IsSign, divided_put}
use Rattle.edit_entries.proofs.NewValueFacts.{CanBeRead}
use Rattle.edit_entries.proofs.PartFacts.{AreEntriesIn, AreFieldsIn, IsIn, edits_in_order, file_in}
use Rattle.edit_entries.proofs.PlacelessFacts.{file_placeless}
use Rattle.edit_entries.proofs.StandsFacts.{AreWhite}
use Rattle.edit_entries.proofs.TrimmedFacts.{IsFieldPlaced, trimmed_known}
use Rattle.edit_entries.proofs.ValuePutFacts.{value_put}

-- ---- a field's name

-- a moved field with another name is the field with the other name, except for byte offsets
renamed_placeless : (move : ℕ → ℕ) (f : FieldReading) (name : List ℕ)
    → map (moved_field (λ n. 0)) (with_name name (moved_field move f) ∷ [])
    ≡ map (moved_field (λ n. 0)) ((record f { name = record f.name { text = name } }) ∷ [])
renamed_placeless move f name =
    let alone : FileReading = record { preamble = []; entries = []; abbreviations = f ∷ [] } in
    let named : FieldReading → FieldReading = λ (g : FieldReading). record g { name = record { text = name; start = 0; end = 0 } } in
    ap (λ says. map named says.abbreviations) (file_placeless move alone)

name_put : (d : Document) (f : FieldReading) (name : List ℕ) → CanBeName name → IsIn d.text f
    → IsPut d f (name_stretch f name) ((record f { name = record f.name { text = name } }) ∷ [])
name_put d f name can is = record {
  start = omega arith;
  inside = omega (arith, is.name.some, is.ordered, is.value);
  read = λ at k after entry j past agrees read here there.
      let x = name_exchanged_read after k entry j f name read here there can in
      let renamed : FieldReading = with_name name (moved_field (moved_place (name_stretch f name)) f) in (
        renamed ∷ [],
        renamed_placeless (moved_place (name_stretch f name)) f name,
        x.0,
        x.1,
        record {
          first = renamed;
          others = [];
          are = refl;
          start = moved_before (name_stretch f name) f.name.start x.0.some;
        },
      );
}

-- ---- changes that can be made

-- a field before others can have this change. Each new name is a name, and each new value parses to its pieces before each text that may
-- follow a value. The text between a new name and its value is an equals sign with white space around it. The text after the comma of a
-- new field is white space. A removed field has another field after it.
abbrev pub CanChange : List FieldReading → FieldChange → Type 0
CanChange following FieldChange.kept = Unit {0}
CanChange following (FieldChange.preceded n sign white) = CanBePut n × IsSign sign × AreWhite white
CanChange following (FieldChange.renamed name) = CanBeName name
CanChange following (FieldChange.valued new) = CanBeRead new
CanChange following (FieldChange.replaced sign n ns white) =
    AreSigns sign × CanBePut n × AllByRecursion CanBePut ns × AreWhite white
CanChange following FieldChange.removed = (g : FieldReading) × (gs : List FieldReading) × (following ≡ g ∷ gs)

-- fields can have these changes
abbrev pub CanFieldsChange : List FieldReading → List FieldChange → Type 0
CanFieldsChange [] changes = Unit {0}
CanFieldsChange (f ∷ fs) [] = Unit {0}
CanFieldsChange (f ∷ fs) (change ∷ changes) = CanChange fs change × CanFieldsChange fs changes

-- an entry can have this change: the new name of its type can be one of an entry, and its fields can have their changes
pub record CanEntryChange (e : EntryReading) (change : EntryChange) : Type 0 where
  pub kind : (name : List ℕ) → change.kind ≡ Some name → CanBeName name × (block_kind name ≡ BlockKind.entry)
  pub fields : CanFieldsChange e.fields change.fields

-- ---- all of them

module _ (d : Document) (changes : EntryReading → EntryChange) (read : IsDocument d) where
  -- an entry with these fields instead of its own
  abbrev with_fields : EntryReading → List FieldReading → EntryReading
  with_fields e fs = record e { fields = fs }

  gone_case : (before rest others : List EntryReading) (later : List Edit) (e : EntryReading) (fb : List FieldReading)
      (f : FieldReading) (fs now : List FieldReading)
      → (next : (g : FieldReading) × (gs : List FieldReading) × (fs ≡ g ∷ gs))
      → d.says.entries ≡ before ++ e ∷ rest → e.fields ≡ fb ++ f ∷ fs
      → MadeFrom d later (before ++ with_fields e (fb ++ f ∷ now) ∷ others) f.value.end (length before) (suc (length fb)) fs
      → MadeFrom d (edits_of_field d.text f fs FieldChange.removed ++ later) (before ++ with_fields e (fb ++ now) ∷ others)
      f.name.start (length before) (length fb) (f ∷ fs)
  gone_case before rest others later e fb f [] now next whole cut from = let none : ⊥ = cc in absurd none
  gone_case before rest others later e fb f (g ∷ gs) now next whole cut from =
      let here : slice_get d.says.entries (length before) ≡ Some e =
      ap (λ es. slice_get es (length before)) whole ∙ get_here before e rest in
      let there : slice_get e.fields (length fb) ≡ Some f = ap (λ xs. slice_get xs (length fb)) cut ∙ get_here fb f (g ∷ gs) in
      field_gone d later before others e (with_fields e (fb ++ f ∷ now)) fb now gs f g read here there refl from

  put_case : (before rest others : List EntryReading) (later : List Edit) (e : EntryReading) (fb : List FieldReading)
      (f : FieldReading) (fs now : List FieldReading) (at : ℕ) (edit : Edit) (news : List FieldReading)
      → IsPut d f edit news
      → d.says.entries ≡ before ++ e ∷ rest → e.fields ≡ fb ++ f ∷ fs → at ≤ f.name.start
      → MadeFrom d later (before ++ with_fields e (fb ++ f ∷ now) ∷ others) f.value.end (length before) (suc (length fb)) fs
      → MadeFrom d (edit ∷ later) (before ++ with_fields e (fb ++ (news ++ now)) ∷ others) at (length before) (length fb) (f ∷ fs)
  put_case before rest others later e fb f fs now at edit news put whole cut less from =
      let here : slice_get d.says.entries (length before) ≡ Some e =
      ap (λ es. slice_get es (length before)) whole ∙ get_here before e rest in
      let there : slice_get e.fields (length fb) ≡ Some f = ap (λ xs. slice_get xs (length fb)) cut ∙ get_here fb f fs in
      less_made_from d _ _ f.name.start at _ _ _ less
      (field_made d later before others e (with_fields e (fb ++ f ∷ now)) fb now fs f edit news read here there refl put
      from.made)

  field_case : (before rest others : List EntryReading) (later : List Edit) (e : EntryReading) (fb : List FieldReading)
      (f : FieldReading) (fs now : List FieldReading) (at : ℕ) (change : FieldChange) → CanChange fs change
      → d.says.entries ≡ before ++ e ∷ rest → e.fields ≡ fb ++ f ∷ fs → at ≤ f.name.start → IsIn d.text f → IsTrimmed d.text f
      → MadeFrom d later (before ++ with_fields e (fb ++ f ∷ now) ∷ others) f.value.end (length before) (suc (length fb)) fs
      → MadeFrom d (edits_of_field d.text f fs change ++ later)
      (before ++ with_fields e (fb ++ (field_changed f change ++ now)) ∷ others) at (length before) (length fb)
      (f ∷ fs)
  field_case before rest others later e fb f fs now at FieldChange.kept can whole cut less is trimmed from =
      let here : slice_get d.says.entries (length before) ≡ Some e =
      ap (λ es. slice_get es (length before)) whole ∙ get_here before e rest in
      let there : slice_get e.fields (length fb) ≡ Some f = ap (λ xs. slice_get xs (length fb)) cut ∙ get_here fb f fs in
      less_made_from d later _ f.value.end at _ _ _ (omega (arith, is.name.some, is.ordered, is.value))
      (stays_made d later _ (length before) (length fb) e f fs here there from.made)
  field_case before rest others later e fb f fs now at (FieldChange.preceded n sign white) can whole cut less is trimmed from =
      put_case before rest others later e fb f fs now at (name_edit f (field_before n sign white)) _
      (preceded_put d f n sign white can.0 can.1 can.2 is) whole cut less from
  field_case before rest others later e fb f fs now at (FieldChange.renamed name) can whole cut less is trimmed from =
      put_case before rest others later e fb f fs now at (name_stretch f name) _ (name_put d f name can is) whole cut less from
  field_case before rest others later e fb f fs now at (FieldChange.valued new) can whole cut less is trimmed from =
      put_case before rest others later e fb f fs now at (value_stretch_edit d.text f new.bytes) _
      (value_put d f new can is trimmed) whole cut less from
  field_case before rest others later e fb f fs now at (FieldChange.replaced sign n ns white) can whole cut less is trimmed from =
      put_case before rest others later e fb f fs now at
      (field_stretch d.text f (field_text_by sign n ++ more_field_texts sign white ns)) _
      (divided_put d f sign n ns white trimmed (omega (arith, is.name.some, is.ordered)) can.0 can.1 can.2 can.3 is.value) whole cut less
      from
  field_case before rest others later e fb f fs now at FieldChange.removed can whole cut less is trimmed from =
      less_made_from d _ _ f.name.start at _ _ _ less (gone_case before rest others later e fb f fs now can whole cut from)

  fields_made : (before rest others : List EntryReading) (later : List Edit) (e : EntryReading)
      (fb fs : List FieldReading) (list : List FieldChange) (at end : ℕ) → CanFieldsChange fs list
      → d.says.entries ≡ before ++ e ∷ rest → e.fields ≡ fb ++ fs
      → AreFieldsIn d.text at fs end → AllByRecursion (IsFieldPlaced d.text) fs → Made d later (before ++ e ∷ others) end
      → MadeFrom d (edits_of_fields d.text fs list ++ later)
      (before ++ with_fields e (fb ++ fields_changed fs list) ∷ others) at (length before) (length fb) fs
  fields_made before rest others later e fb [] list at end can whole cut order all made =
      less_made_from d later _ end at _ _ _ order
      (record { made = subst (λ xs. Made d later (before ++ with_fields e xs ∷ others) end) cut made; first = tt })
  fields_made before rest others later e fb (f ∷ fs) [] at end can whole cut order all made =
      let here : slice_get d.says.entries (length before) ≡ Some e =
      ap (λ es. slice_get es (length before)) whole ∙ get_here before e rest in
      let there : slice_get e.fields (length fb) ≡ Some f = ap (λ xs. slice_get xs (length fb)) cut ∙ get_here fb f fs in
      let is = order.1 in
      let past = fields_end f.value.end end fs order.2 in
      less_made_from d later _ f.value.end at _ _ _ (omega (arith, order.0, is.name.some, is.ordered, is.value))
      (stays_made d later _ (length before) (length fb) e f fs here there
      (less_made d later _ end f.value.end past
      (subst (λ xs. Made d later (before ++ with_fields e xs ∷ others) end) cut made)))
    where
      fields_end : (at end : ℕ) (fs : List FieldReading) → AreFieldsIn d.text at fs end → at ≤ end
      fields_end at end [] order = order
      fields_end at end (f ∷ fs) order =
          omega (arith, order.0, order.1.name.some, order.1.ordered, order.1.value, fields_end f.value.end end fs order.2)
  fields_made before rest others later e fb (f ∷ fs) (change ∷ list) at end can whole cut order all made =
      let edits : List Edit = edits_of_fields d.text fs list in
      let now : List FieldReading = fields_changed fs list in
      let count : length (fb ++ f ∷ []) ≡ suc (length fb) = omega (arith, length-append fb (f ∷ [])) in
      let more =
      fields_made before rest others later e (fb ++ f ∷ []) fs list f.value.end end can.1 whole
      (cut ∙ sym (append_assoc fb (f ∷ []) fs)) order.2 all.1 made in
      let made' =
      subst
      (λ xs.
      MadeFrom d (edits ++ later) (before ++ with_fields e xs ∷ others) f.value.end (length before)
      (length (fb ++ f ∷ [])) fs) (append_assoc fb (f ∷ []) now) more in
      let from =
      subst
      (λ n.
      MadeFrom d (edits ++ later) (before ++ with_fields e (fb ++ f ∷ now) ∷ others) f.value.end
      (length before) n fs) count made' in
      subst
      (λ es.
      MadeFrom d es (before ++ with_fields e (fb ++ (field_changed f change ++ now)) ∷ others) at
      (length before) (length fb) (f ∷ fs)) (sym (append_assoc (edits_of_field d.text f fs change) edits later))
      (field_case before rest others (edits ++ later) e fb f fs now at change can.0 whole cut order.0 order.1 all.0.trimmed
      from)

  kind_case : (before rest others : List EntryReading) (later : List Edit) (e : EntryReading) (fs : List FieldReading)
      (at : ℕ) (o : Option (List ℕ))
      → ((name : List ℕ) → o ≡ Some name → CanBeName name × (block_kind name ≡ BlockKind.entry))
      → d.says.entries ≡ before ++ e ∷ rest → at ≤ e.kind.start → e.kind.start ≤ e.kind.end
      → Made d later (before ++ with_fields e fs ∷ others) e.kind.end
      → Made d (part_edits e.kind o ++ later)
      (before ++ (record e { kind = with_other_text e.kind o; fields = fs }) ∷ others) at
  kind_case before rest others later e fs at None can whole less ordered made = less_made d later _ e.kind.end at (omega arith) made
  kind_case before rest others later e fs at (Some name) can whole less ordered made =
      let here : slice_get d.says.entries (length before) ≡ Some e =
      ap (λ es. slice_get es (length before)) whole ∙ get_here before e rest in
      let known = can name refl in
      less_made d _ _ e.kind.start at less (kind_made d later before others e (with_fields e fs) name read here known.0 known.1 made)

  entries_made : (before es : List EntryReading) (at : ℕ) → AllByRecursion (λ e. CanEntryChange e (changes e)) es
      → d.says.entries ≡ before ++ es → AreEntriesIn d.text at es
      → AllByRecursion (λ e. AllByRecursion (IsFieldPlaced d.text) e.fields) es
      → Made d (edits_of_entries changes d.text es) (before ++ map (λ e. entry_changed e (changes e)) es) at
  entries_made before [] at can whole order all = record {
    after = d;
    read = read;
    text = refl;
    agrees = agrees_self at d;
    kinds = λ k e here below. (e, here, refl);
    alike = ap (λ es. placeless (of_entries d.says es)) whole;
  }
  entries_made before (e ∷ es) at can whole order all =
      let changed : EntryReading → EntryReading = λ (x : EntryReading). entry_changed x (changes x) in
      let change : EntryChange = changes e in
      let edits : List Edit = edits_of_fields d.text e.fields change.fields in
      let now : List FieldReading = fields_changed e.fields change.fields in
      let others : List EntryReading = map changed es in
      let later : List Edit = edits_of_entries changes d.text es in
      let more = entries_made (before ++ e ∷ []) es order.0 can.1 (whole ∙ sym (append_assoc before (e ∷ []) es)) order.4 all.1 in
      let made = subst (λ xs. Made d later xs order.0) (append_assoc before (e ∷ []) others) more in
      let fields =
      fields_made before es others later e [] e.fields change.fields e.kind.end order.0 can.0.fields whole refl order.3
      all.0 made in
      subst (λ es'. Made d es' (before ++ changed e ∷ others) at)
      (sym (append_assoc (part_edits e.kind change.kind) edits later))
      (kind_case before es others (edits ++ later) e now at change.kind can.0.kind whole order.1
      (omega (arith, order.2.some)) fields.made)

-- in a UTF-8 text, the value of each field may be cut out, and only white space is between its trimmed end and its end
pub values_placed : (d : Document) → IsDocument d → IsUtf8 d.text → OfFields (IsFieldPlaced d.text) d.says.entries
values_placed d read utf8 =
    let all = all_placed d read in
    fields_weaker (IsPlaced d.text) (IsPlaced d.text) (IsFieldPlaced d.text)
    (λ f placed again. record { placed = placed; trimmed = trimmed_known d.text f utf8 placed }) d.says.entries all
    all

-- the UTF-8 text of a document with changes that can be made parses to its reading with these changes, except for byte offsets
pub changed_read : (d : Document) (changes : EntryReading → EntryChange) → IsDocument d → IsUtf8 d.text
    → AllByRecursion (λ e. CanEntryChange e (changes e)) d.says.entries
    → IsReadPlaceless (file_changed changes d.says) (text_changed changes d)
changed_read d changes read utf8 can =
    let made = entries_made d changes read [] d.says.entries 0 can refl (file_in d.text refl read) (values_placed d read utf8) in
    record { tells = made.after.says; read = subst (λ t. IsRawReading t made.after.says) made.text made.read; alike = made.alike }

-- the edits of changes of a UTF-8 text are in order
pub changes_in_order : (d : Document) (changes : EntryReading → EntryChange) → IsDocument d → IsUtf8 d.text
    → AreEditsInOrder d.text 0 (edits_of_entries changes d.text d.says.entries)
changes_in_order d changes read utf8 =
    edits_in_order changes d.text 0 d.says.entries (file_in d.text refl read) (values_placed d read utf8)

-- if a call returns the text of a UTF-8 document with changes that can be made, it returns the changed document
pub changed_answer : {S E : Type 0} (bytes : S → List ℕ) (r : Result S E) (d : Document) (changes : EntryReading → EntryChange)
    → IsDocument d → IsUtf8 d.text → AllByRecursion (λ e. CanEntryChange e (changes e)) d.says.entries
    → IfOk r (λ new. bytes new ≡ text_changed changes d) → IfOk r (λ new. IsChanged changes d (bytes new))
changed_answer bytes (Err e) d changes read utf8 can text = _
changed_answer bytes (Ok new) d changes read utf8 can text = record {
  is = text;
  read = subst (IsReadPlaceless (file_changed changes d.says)) (sym text) (changed_read d changes read utf8 can);
}
