-- A field with another value as one field that replaces it.
use Rattle.std.proofs.Common.{◌≡◌, ℕ, zero, suc, List, [], ◌∷◌, map, refl, ap, ◌∙◌, subst, arith, Some}
use Rattle.std.specs.Prelude.{option_map, slice_get, slice_set}
use Rattle.std.specs.Char.{is_whitespace}
use Rattle.std.proofs.lemmas.Option.{slice_get-map}
use Rattle.bib_text.specs.Places.{Run, place}
use Rattle.bib_syntax.specs.Reading.{Piece, FieldReading}
use Rattle.edit_entries.specs.Changes.{IsTrimmed, NewValue, value_stretch_edit}
use Rattle.edit_entries.specs.Documents.{Document, IsDocument, entry_edited}
use Rattle.edit_entries.specs.Edits.{Edit, moved_entry, moved_field, moved_piece, moved_place}
use Rattle.edit_entries.proofs.AgreementFacts.{agrees_before, same_run}
use Rattle.edit_entries.proofs.EditFacts.{moved_before}
use Rattle.edit_entries.proofs.FieldMadeFacts.{IsPut}
use Rattle.edit_entries.proofs.NewValueFacts.{CanBeRead, value_exchanged, with_pieces}
use Rattle.edit_entries.proofs.PartFacts.{IsIn}
use Rattle.edit_entries.proofs.PutFacts.{put_at}

-- replacing an element is replacing it by a list of one element
set_put : {A : Type 0} (xs : List A) (j : ℕ) (x y : A) → slice_get xs j ≡ Some x → slice_set xs j y ≡ put_at j (y ∷ []) xs
set_put [] j x y there = absurd (cc)
set_put (z ∷ zs) zero x y there = refl
set_put (z ∷ zs) (suc j) x y there = ap (λ l. z ∷ l) (set_put zs j x y there)

-- a moved field with pieces that are the new ones except for byte offsets is the field with the new pieces, except for byte offsets
valued_placeless : (move : ℕ → ℕ) (f : FieldReading) (reading pieces : List Piece)
    → map (moved_piece (λ n. 0)) reading ≡ map (moved_piece (λ n. 0)) pieces
    → map (moved_field (λ n. 0)) (with_pieces reading (moved_field move f) ∷ [])
    ≡ map (moved_field (λ n. 0)) ((record f { value = record f.value { pieces = pieces } }) ∷ [])
valued_placeless move f reading pieces alike =
    ap
    (λ ps.
    let g : FieldReading =
    record {
      name = record { text = f.name.text; start = 0; end = 0 };
      value = record { pieces = ps; start = 0; end = 0 };
    } in
    g ∷ []) alike

pub value_put : (d : Document) (f : FieldReading) (new : NewValue) → CanBeRead new → IsIn d.text f → IsTrimmed d.text f
    → IsPut d f (value_stretch_edit d.text f new.bytes) ((record f { value = record f.value { pieces = new.pieces } }) ∷ [])
value_put d f new can is trimmed =
    let edit : Edit = value_stretch_edit d.text f new.bytes in
    let move = moved_place edit in
    record {
      start = omega (arith, is.name.some, is.ordered);
      inside = omega (arith, is.value);
      read = λ at k after entry j past agrees read here there.
          let same = (agrees_before at f.value.end d after past agrees).text in
          let blank : Run is_whitespace (place after.text edit.end) (place after.text f.value.end) =
          same_run d.text after.text f.value.end same refl (omega arith) trimmed in
          let x = value_exchanged after edit k entry j f new read here there refl can (refl, omega arith, blank) in
          let made : FieldReading = with_pieces x.reading (moved_field move f) in
          let all : List FieldReading = map (moved_field move) entry.fields in
          let moved_there : slice_get all j ≡ Some (moved_field move f) =
          slice_get-map (moved_field move) entry.fields j ∙ ap (option_map (moved_field move)) there in
          let with_fields : List FieldReading → Document =
          λ (fs : List FieldReading). entry_edited after edit k (record (moved_entry move entry) { fields = fs }) in (
            made ∷ [],
            valued_placeless move f x.reading new.pieces x.alike,
            record { some = x.some; within = x.within },
            subst (λ fs. IsDocument (with_fields fs)) (set_put all j (moved_field move f) made moved_there) x.read,
            record {
              first = made;
              others = [];
              are = refl;
              start = moved_before edit f.name.start (omega (arith, is.name.some, is.ordered, x.some));
            },
          );
    }
