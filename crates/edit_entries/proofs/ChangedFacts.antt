-- A document after changes of keys and values, from the last change to the first.
use Rattle.std.proofs.Common.{◌≡◌, ℕ, ◌+◌, ◌-◌, ◌<◌, ◌≤◌, List, [], ◌∷◌, length, map, refl, sym, ap, ◌∙◌, subst, arith, Some}
use Rattle.std.specs.Prelude.{slice_get, slice_set}
use Rattle.std.specs.Char.{is_whitespace}
use Rattle.std.specs.List.{AllByRecursion}
use Rattle.std.specs.Str.{trim_end}
use Rattle.bib_text.specs.Braces.{IsParts}
use Rattle.bib_text.specs.Places.{place, Run}
use Rattle.bib_text.proofs.PlaceFacts.{ahead_char, ahead_run, ahead_then, same_place}
use Rattle.bib_syntax.specs.Reading.{Part, FieldReading, EntryReading}
use Rattle.bib_syntax.proofs.FieldFacts.{ahead_field, ahead_identifier}
use Rattle.edit_entries.specs.Edits.{Edit, edited, edited_all, moved_place, moved_field, moved_entry}
use Rattle.edit_entries.specs.Documents.{CanBeKey, Document, IsDocument, entry_renamed, text_at, value_changed, value_edit, value_stretch, with_value}
use Rattle.edit_entries.specs.References.{CanBeMade, Change, Changed, change_edit}
use Rattle.edit_entries.specs.Stretches.{AreChangesInOrder, EndsInWhite}
use Rattle.edit_entries.proofs.SplitFacts.{split_fields, split_file}
use Rattle.edit_entries.proofs.NewValueFacts.{value_changed_read}
use Rattle.edit_entries.proofs.ValueFacts.{field_placed, value_some}
use Rattle.edit_entries.proofs.EntryFacts.{ahead_to_field}
use Rattle.edit_entries.proofs.RenamedFacts.{entry_renamed_read, key_placed}
use Rattle.edit_entries.proofs.AgreementFacts.{Agrees, AgreesIn, agrees_before, agrees_self, edited_agrees, get_set_other, moved_agrees, same_bytes, same_run}

-- a change replaces the key of an entry of the document, which isn't empty, or the value of a field of the document
abbrev pub IsPieceOf : Document → Change → Type 0
IsPieceOf d (Change.key p new) = (k : ℕ) × (e : EntryReading) × (slice_get d.says.entries k ≡ Some e) × (e.key ≡ p) × (p.start < p.end)
IsPieceOf d (Change.value f new) =
    (k : ℕ) × (e : EntryReading) × (j : ℕ) × (slice_get d.says.entries k ≡ Some e) × (slice_get e.fields j ≡ Some f)

-- a document after changes from a byte offset on: it has their text and agrees with the old one up to the offset
pub record Made (d : Document) (changes : List Change) (at : ℕ) : Type 0 where
  pub after : Document
  pub changed : Changed d changes after
  pub read : IsDocument after
  pub text : after.text ≡ edited_all (map (change_edit d.text) changes) d.text
  pub agrees : Agrees at d after

-- ---- a key

key_made : (d : Document) (changes : List Change) (p : Part) (new : List ℕ) → IsDocument d
    → IsPieceOf d (Change.key p new) → CanBeKey new → Made d changes p.end → Made d (Change.key p new ∷ changes) p.start
key_made d changes p new read piece can made =
    let k = piece.0 in
    let e = piece.1 in
    let found = made.agrees.entries k e piece.2 in
    let entry = found.0 in
    let key : entry.key ≡ p = found.2.key (omega (arith, ap (λ q. q.end) piece.3)) ∙ piece.3 in
    let edit : Edit = record { start = entry.key.start; end = entry.key.end; bytes = new } in
    let build : Part → Edit = λ (q : Part). record { start = q.start; end = q.end; bytes = new } in
    let start : edit.start ≡ p.start = ap (λ q. q.start) key in
    let end : edit.end ≡ p.end = ap (λ q. q.end) key in
    let some : edit.start < edit.end = omega (arith, piece.4) in
    let within : edit.start ≤ length made.after.text = (key_placed made.after k entry made.read found.1).start.0 in
    let before : Agrees edit.start d made.after = agrees_before p.end edit.start d made.after (omega (arith, piece.4)) made.agrees in
    let moved = moved_agrees d edit k e entry read some piece.2 (before_in found.2 (omega (arith, piece.4))) in
    let new_entry : EntryReading = record (moved_entry (moved_place edit) entry) { key = text_at (moved_place edit entry.key.start) new } in
    let agrees : AgreesIn edit.start e new_entry = record {
      key = λ below. absurd (omega (arith, ap (λ q. q.end) piece.3, piece.4));
      fields = moved.fields;
    } in
    record {
      after = entry_renamed made.after k entry new;
      changed = Changed.key k made.changed found.1 key;
      read = entry_renamed_read made.after k entry new made.read found.1 some can;
      text = ap (edited edit) made.text ∙ ap (λ q. edited (build q) (edited_all (map (change_edit d.text) changes) d.text)) key;
      agrees =
          subst (λ n. Agrees n d (entry_renamed made.after k entry new)) start
          (edited_agrees d made.after edit k e new_entry read before some within piece.2 agrees);
    }
  where
    before_in : {at less : ℕ} {e entry : EntryReading} → AgreesIn at e entry → less ≤ at → AgreesIn less e entry
    before_in a small = record { key = λ below. a.key (omega arith); fields = λ j f there below. a.fields j f there (omega arith) }

-- ---- a value

-- the value of a field isn't empty without the white space after it
stretch_some : (d : Document) (k : ℕ) (e : EntryReading) (j : ℕ) (f : FieldReading) (end : ℕ) → IsDocument d
    → slice_get d.says.entries k ≡ Some e → slice_get e.fields j ≡ Some f → f.value.start ≤ end
    → Run is_whitespace (place d.text end) (place d.text f.value.end) → f.value.start < end
stretch_some d k e j f end read here there ordered white =
    let s = split_file k e read here in
    let g = split_fields j f s.block.fields there in
    let to_field = ahead_to_field s g in
    let to_value =
    ahead_then (ahead_identifier g.field.name)
    (ahead_then (ahead_run g.field.white.run)
    (ahead_then (ahead_char g.field.sign) (ahead_run g.field.white'.run))) in
    let value_at = ahead_then to_field to_value in
    let last : place d.text f.value.end ≡ g.end =
    same_place {u = place d.text f.value.end} {v = g.end} (sym (ahead_then to_field (ahead_field g.field)).text)
    g.field.ends in
    let blank : Run is_whitespace (place d.text end) g.end = subst (λ p. Run is_whitespace (place d.text end) p) last white in
    subst (λ n. n < end) (sym g.field.starts) (value_some g.field.elements value_at.text (omega (arith, g.field.starts)) blank)

-- an entry still agrees up to the start of an edit in a field after the edit replaces this field. The stretch of the edit isn't empty
field_agrees : (d : Document) (edit : Edit) (k : ℕ) (e entry : EntryReading) (j : ℕ) (f g : FieldReading) → IsDocument d
    → edit.start < edit.end → slice_get d.says.entries k ≡ Some e → slice_get e.fields j ≡ Some f
    → edit.start < f.value.end → AgreesIn edit.start e entry
    → AgreesIn edit.start e
    (record (moved_entry (moved_place edit) entry)
    { fields = slice_set (map (moved_field (moved_place edit)) entry.fields) j g })
field_agrees d edit k e entry j f g read some here there after a =
    let moved = moved_agrees d edit k e entry read some here a in
    record {
      key = moved.key;
      fields = λ i x found below.
          get_set_other (map (moved_field (moved_place edit)) entry.fields) j i g
          (λ same. absurd (other i x found below same)) ∙ moved.fields i x found below;
    }
  where
    other : (i : ℕ) (x : FieldReading) → slice_get e.fields i ≡ Some x → x.value.end ≤ edit.start → i ≡ j → ⊥
    other i x found below same =
        let is : Some x ≡ Some f = sym found ∙ ap (slice_get e.fields) same ∙ there in
        let x_is : x ≡ f = cc in
        omega (arith, ap (λ y. y.value.end) x_is)

value_made : (d : Document) (changes : List Change) (f : FieldReading) (new : List ℕ) → IsDocument d
    → IsPieceOf d (Change.value f new) → IsParts new → EndsInWhite d.text (Change.value f new)
    → Made d changes f.value.end
    → Made d (Change.value f new ∷ changes) f.value.start
value_made d changes f new read piece can white made =
    let k = piece.0 in
    let e = piece.1 in
    let j = piece.2 in
    let found = made.agrees.entries k e piece.3 in
    let entry = found.0 in
    let here : slice_get entry.fields j ≡ Some f = found.2.fields j f piece.4 (omega arith) in
    let text = made.after.text in
    let ordered = (field_placed d k e j f read piece.3 piece.4).ordered in
    let stretch : value_stretch text f ≡ value_stretch d.text f =
    same_bytes text d.text f.value.end f.value.start (f.value.end - f.value.start) made.agrees.text (omega arith) in
    let build : List ℕ → Edit =
    λ (xs : List ℕ).
    record {
      start = f.value.start;
      end = f.value.start + length (trim_end xs);
      bytes = (value_edit d.text f new).bytes;
    } in
    let edit : Edit = value_edit text f new in
    let edit_is : edit ≡ value_edit d.text f new = ap build stretch in
    let blank : Run is_whitespace (place text (value_edit d.text f new).end) (place text f.value.end) =
    same_run d.text text f.value.end made.agrees.text refl (omega arith) white.0 in
    let blank' : Run is_whitespace (place text edit.end) (place text f.value.end) =
    subst (λ x. Run is_whitespace (place text x.end) (place text f.value.end)) (sym edit_is) blank in
    let end_is : edit.end ≡ (value_edit d.text f new).end = ap (λ x. x.end) edit_is in
    let some : edit.start < edit.end =
    omega (
      arith,
      end_is,
      stretch_some d k e j f (value_edit d.text f new).end read piece.3 piece.4 (omega arith) white.0,
    ) in
    let within : edit.start ≤ length text = (field_placed made.after k entry j f made.read found.1 here).start.0 in
    let last : edit.end ≤ f.value.end = (ahead_run blank').at in
    let before : Agrees edit.start d made.after = agrees_before f.value.end edit.start d made.after ordered made.agrees in
    let again = before.entries k e piece.3 in
    let agrees =
    field_agrees d edit k e entry j f (with_value new (moved_field (moved_place edit) f)) read some piece.3 piece.4
    (omega (arith, some, last))
    (record {
      key = λ below. found.2.key (omega arith);
      fields = λ i x there below. found.2.fields i x there (omega arith);
    }) in
    record {
      after = value_changed made.after k entry j f new;
      changed = Changed.value k j made.changed found.1 here;
      read = value_changed_read made.after k entry j f new made.read found.1 here can blank';
      text = ap (edited edit) made.text ∙ ap (λ x. edited x (edited_all (map (change_edit d.text) changes) d.text)) edit_is;
      agrees = edited_agrees d made.after edit k e _ read before some within piece.3 agrees;
    }

-- ---- all of them

less_made : (d : Document) (changes : List Change) (at less : ℕ) → less ≤ at → Made d changes at → Made d changes less
less_made d changes at less small made = record {
  after = made.after;
  changed = made.changed;
  read = made.read;
  text = made.text;
  agrees = agrees_before at less d made.after small made.agrees;
}

pub all_made : (d : Document) (at : ℕ) (changes : List Change) → IsDocument d → AreChangesInOrder d.text at changes
    → AllByRecursion (IsPieceOf d) changes → AllByRecursion CanBeMade changes
    → AllByRecursion (EndsInWhite d.text) changes → Made d changes at
all_made d at [] read apart pieces can white = record {
  after = d;
  changed = Changed.none;
  read = read;
  text = refl;
  agrees = agrees_self at d;
}
all_made d at (Change.key p new ∷ changes) read apart pieces can white =
    less_made d (Change.key p new ∷ changes) p.start at apart.0
    (key_made d changes p new read pieces.0 can.0 (all_made d p.end changes read apart.4 pieces.1 can.1 white.1))
all_made d at (Change.value f new ∷ changes) read apart pieces can white =
    less_made d (Change.value f new ∷ changes) f.value.start at apart.0
    (value_made d changes f new read pieces.0 can.0 white.0
    (all_made d f.value.end changes read apart.4 pieces.1 can.1 white.1))
