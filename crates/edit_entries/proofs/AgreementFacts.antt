-- A document that agrees with another up to a byte offset: its text before the offset is the same. It has, at the same indices, each key
-- and each field of the other that ends at or before the offset.
use Rattle.std.proofs.Common.{◌≡◌, inl, inr, ℕ, zero, suc, ◌+◌, ◌<◌, ◌≤◌, Bool, List, [], ◌∷◌, ◌++◌, length, map, take, drop, refl, sym, ap, ◌∙◌, subst, arith, Some}
use Rattle.std.specs.Prelude.{encode_utf8, option_map, slice_get, slice_set}
use Rattle.std.specs.Char.{len_utf8}
use Rattle.std.proofs.lemmas.Bool.Decides.{eqb_tells}
use Rattle.std.proofs.lemmas.Option.{slice_get-map}
use Rattle.bib_text.specs.Places.{Place, place, CharAt, Run}
use Rattle.bib_text.specs.Places.Run.{stop, step}
use Rattle.bib_text.proofs.BraceFacts.{ahead_parts}
use Rattle.bib_text.proofs.PlaceFacts.{ahead_char, ahead_run, ahead_then}
use Rattle.bib_text.proofs.ListFacts.{get_set}
use Rattle.bib_syntax.specs.Reading.{Part, Piece, FieldReading, EntryReading}
use Rattle.bib_syntax.specs.Reading.Piece.{literal, abbreviation}
use Rattle.bib_syntax.specs.Grammar.{Element, Elements, Field, longest}
use Rattle.bib_syntax.specs.Grammar.{Element as element}
use Rattle.bib_syntax.specs.Grammar.{Elements as elements}
use Rattle.bib_syntax.proofs.WordFacts.{ahead_number}
use Rattle.bib_syntax.proofs.FieldFacts.{ahead_elements, ahead_identifier, ahead_quoted_parts}
use Rattle.edit_entries.specs.Edits.{Edit, moved_place, moved_part, moved_piece, moved_field, moved_entry}
use Rattle.edit_entries.specs.Documents.{Document, IsDocument, entry_edited}
use Rattle.edit_entries.proofs.EditFacts.{front, moved_before}
use Rattle.edit_entries.proofs.SplitFacts.{split_fields, split_file}
use Rattle.edit_entries.proofs.RenamedFacts.{key_placed}
use Rattle.edit_entries.proofs.ZoneFacts.{copied, inner}

-- ---- parts before a byte offset

abbrev PieceWithin : ℕ → Piece → Type 0
PieceWithin at (literal p) = (p.start ≤ at) × (p.end ≤ at)
PieceWithin at (abbreviation p) = (p.start ≤ at) × (p.end ≤ at)

abbrev PiecesWithin : ℕ → List Piece → Type 0
PiecesWithin at [] = Unit {0}
PiecesWithin at (p ∷ ps) = PieceWithin at p × PiecesWithin at ps

record FieldWithin (at : ℕ) (f : FieldReading) : Type 0 where
  name_start : f.name.start ≤ at
  name_end : f.name.end ≤ at
  value_start : f.value.start ≤ at
  value_end : f.value.end ≤ at
  pieces : PiecesWithin at f.value.pieces

element_within : {u v : Place} {p : Piece} (at : ℕ) → Element longest u p v → v.at ≤ at → PieceWithin at p
element_within at (element.number n) below = (omega (arith, (ahead_number n).at), below)
element_within at (element.named none i) below =
    (omega (arith, ap (λ p. p.start) i.reading, (ahead_identifier i).at), omega (arith, ap (λ p. p.end) i.reading))
element_within at (element.braced b) below = (
  omega (arith, ap (λ p. p.start) b.reading, (ahead_parts b.parts).at, (ahead_char b.closes).at),
  omega (arith, ap (λ p. p.end) b.reading, (ahead_char b.closes).at),
)
element_within at (element.quoted q) below = (
  omega (arith, ap (λ p. p.start) q.reading, (ahead_quoted_parts q.parts).at, (ahead_char q.closes).at),
  omega (arith, ap (λ p. p.end) q.reading, (ahead_char q.closes).at),
)

elements_within : {u v : Place} {ps : List Piece} (at : ℕ) → Elements longest u ps v → v.at ≤ at → PiecesWithin at ps
elements_within at (elements.last e white ends) below = (element_within at e (omega (arith, (ahead_run white.run).at)), tt)
elements_within at (elements.more e white sign white' rest) below = (
  element_within at e
      (omega (
        arith,
        (ahead_run white.run).at,
        (ahead_char sign).at,
        (ahead_run white'.run).at,
        (ahead_elements rest).at,
      )),
  elements_within at rest below,
)

field_within : {u v : Place} {f : FieldReading} → Field longest u f v → FieldWithin f.value.end f
field_within {u} {v} {f} field =
    let to_value = ahead_then (ahead_run field.white.run) (ahead_then (ahead_char field.sign) (ahead_run field.white'.run)) in
    let over = ahead_elements field.elements in
    record {
      name_start = omega (arith, ap (λ p. p.start) field.name.reading, (ahead_identifier field.name).at, to_value.at, over.at, field.ends);
      name_end = omega (arith, ap (λ p. p.end) field.name.reading, to_value.at, over.at, field.ends);
      value_start = omega (arith, field.starts, over.at, field.ends);
      value_end = omega arith;
      pieces = elements_within f.value.end field.elements (omega (arith, field.ends));
    }

-- ---- parts that a later edit doesn't move

pub unmoved_part : (move : ℕ → ℕ) (p : Part) → move p.start ≡ p.start → move p.end ≡ p.end → moved_part move p ≡ p
unmoved_part move p start end =
    let build : ℕ → ℕ → Part = λ (m n : ℕ). record { text = p.text; start = m; end = n } in
    ap (λ m. build m (move p.end)) start ∙ ap (build p.start) end

unmoved_pieces : (move : ℕ → ℕ) (at : ℕ) (ps : List Piece) → ((n : ℕ) → n ≤ at → move n ≡ n) → PiecesWithin at ps
    → map (moved_piece move) ps ≡ ps
unmoved_pieces move at [] stays within = refl
unmoved_pieces move at (literal p ∷ ps) stays within =
    ap (λ q. literal q ∷ map (moved_piece move) ps)
    (unmoved_part move p (stays p.start within.0.0) (stays p.end within.0.1))
    ∙ ap (λ l. literal p ∷ l) (unmoved_pieces move at ps stays within.1)
unmoved_pieces move at (abbreviation p ∷ ps) stays within =
    ap (λ q. abbreviation q ∷ map (moved_piece move) ps)
    (unmoved_part move p (stays p.start within.0.0) (stays p.end within.0.1))
    ∙ ap (λ l. abbreviation p ∷ l) (unmoved_pieces move at ps stays within.1)

unmoved_field : (move : ℕ → ℕ) (at : ℕ) (f : FieldReading) → ((n : ℕ) → n ≤ at → move n ≡ n) → FieldWithin at f → moved_field move f ≡ f
unmoved_field move at f stays within =
    let build : Part → List Piece → ℕ → ℕ → FieldReading =
    λ (name : Part) (ps : List Piece) (m n : ℕ).
    record { name = name; value = record { pieces = ps; start = m; end = n } } in
    let pieces = map (moved_piece move) f.value.pieces in
    ap (λ name. build name pieces (move f.value.start) (move f.value.end))
    (unmoved_part move f.name (stays f.name.start within.name_start) (stays f.name.end within.name_end))
    ∙ ap (λ ps. build f.name ps (move f.value.start) (move f.value.end)) (unmoved_pieces move at f.value.pieces stays within.pieces)
    ∙ ap (λ m. build f.name f.value.pieces m (move f.value.end)) (stays f.value.start within.value_start)
    ∙ ap (build f.name f.value.pieces f.value.start) (stays f.value.end within.value_end)

-- a field of a document that ends at or before a byte offset isn't moved by a function that keeps byte offsets up to it
pub field_stays : (d : Document) (k : ℕ) (e : EntryReading) (j : ℕ) (f : FieldReading) (move : ℕ → ℕ) (at : ℕ)
    → IsDocument d → slice_get d.says.entries k ≡ Some e → slice_get e.fields j ≡ Some f → f.value.end ≤ at
    → ((n : ℕ) → n ≤ at → move n ≡ n) → moved_field move f ≡ f
field_stays d k e j f move at read here there below stays =
    let s = split_file k e read here in
    let g = split_fields j f s.block.fields there in
    unmoved_field move f.value.end f (λ n small. stays n (omega arith)) (field_within g.field)

-- ---- lists with one element replaced

pub get_set_other : {A : Type 0} (xs : List A) (k j : ℕ) (y : A) → (j ≡ k → ⊥) → slice_get (slice_set xs k y) j ≡ slice_get xs j
get_set_other [] k j y other = refl
get_set_other (z ∷ zs) zero zero y other = absurd (other refl)
get_set_other (z ∷ zs) zero (suc j) y other = refl
get_set_other (z ∷ zs) (suc k) zero y other = refl
get_set_other (z ∷ zs) (suc k) (suc j) y other = get_set_other zs k j y (λ same. other (ap suc same))

-- ---- agreement

pub record AgreesIn (at : ℕ) (e : EntryReading) (entry : EntryReading) : Type 0 where
  pub key : e.key.end ≤ at → entry.key ≡ e.key
  pub fields : (j : ℕ) (f : FieldReading) → slice_get e.fields j ≡ Some f → f.value.end ≤ at → slice_get entry.fields j ≡ Some f

pub record Agrees (at : ℕ) (d after : Document) : Type 0 where
  pub text : take at after.text ≡ take at d.text
  pub entries : (k : ℕ) (e : EntryReading) → slice_get d.says.entries k ≡ Some e
      → (entry : EntryReading) × (slice_get after.says.entries k ≡ Some entry) × AgreesIn at e entry

pub agrees_self : (at : ℕ) (d : Document) → Agrees at d d
agrees_self at d = record {
  text = refl;
  entries = λ k e here. (e, here, record { key = λ below. refl; fields = λ j f there below. there });
}

-- texts with the same first `at` bytes have the same bytes between two byte offsets up to `at`
pub same_bytes : (x y : List ℕ) (at a n : ℕ) → take at x ≡ take at y → a + n ≤ at → take n (drop a x) ≡ take n (drop a y)
same_bytes x y at a n same within = sym (inner at a n x within) ∙ ap (λ xs. take n (drop a xs)) same ∙ inner at a n y within

pub agrees_before : (at before : ℕ) (d after : Document) → before ≤ at → Agrees at d after → Agrees before d after
agrees_before at before d after less a = record {
  text = same_bytes after.text d.text at 0 before a.text (omega arith);
  entries = λ k e here.
      let found = a.entries k e here in (
        found.0,
        found.1,
        record {
          key = λ below. found.2.key (omega arith);
          fields = λ j f there below. found.2.fields j f there (omega arith);
        },
      );
}

-- a character before a byte offset also occurs in a text with the same bytes up to it
pub same_character : {u v : Place} {c : ℕ} (x y : List ℕ) (at : ℕ) → take at y ≡ take at x → u.text ≡ x → v.at ≤ at
    → CharAt u c v → CharAt (place y u.at) c (place y v.at)
same_character {u} {v} {c} x y at same text within char =
    let next : v.at ≡ u.at + len_utf8 c = char.next in
    let here : drop u.at x ≡ encode_utf8 c ++ drop v.at x = subst (λ t. drop u.at t ≡ encode_utf8 c ++ drop v.at t) text char.here in
    let stands : CharAt (place y u.at) c (place y (u.at + len_utf8 c)) =
    copied x y (drop v.at x) u.at u.at c here (same_bytes y x at u.at (len_utf8 c) same (omega arith)) in
    subst (λ n. CharAt (place y u.at) c (place y n)) (sym next) stands

-- a run before a byte offset also occurs in a text with the same bytes up to it
pub same_run : {test : ℕ → Bool} {u v : Place} (x y : List ℕ) (at : ℕ) → take at y ≡ take at x → u.text ≡ x → v.at ≤ at
    → Run test u v → Run test (place y u.at) (place y v.at)
same_run x y at same text within stop = stop
same_run {test} {u} {v} x y at same text within (step {v = w} {c = c} char passes rest) =
    step (same_character x y at same text (omega (arith, (ahead_run rest).at)) char) passes
    (same_run x y at same (char.same ∙ text) within rest)

-- an entry that agrees with an old one up to the start of an edit still agrees after its byte offsets move. The stretch of the edit isn't
-- empty
pub moved_agrees : (d : Document) (edit : Edit) (k : ℕ) (e entry : EntryReading) → IsDocument d → edit.start < edit.end
    → slice_get d.says.entries k ≡ Some e → AgreesIn edit.start e entry
    → AgreesIn edit.start e (moved_entry (moved_place edit) entry)
moved_agrees d edit k e entry read some here agrees =
    let stays = λ (n : ℕ) (small : n ≤ edit.start). moved_before edit n (omega arith) in
    record {
      key = λ below.
          let ordered = (key_placed d k e read here).ordered in
          ap (moved_part (moved_place edit)) (agrees.key below)
          ∙ unmoved_part (moved_place edit) e.key (stays e.key.start (omega arith)) (stays e.key.end below);
      fields = λ j f there below.
          slice_get-map (moved_field (moved_place edit)) entry.fields j
          ∙ ap (option_map (moved_field (moved_place edit))) (agrees.fields j f there below)
          ∙ ap Some (field_stays d k e j f (moved_place edit) edit.start read here there below stays);
    }

-- documents agree up to an edit, and an entry is replaced by one that agrees: each entry agrees with the old one at its index. The stretch
-- of the edit isn't empty
other_entries : (d after : Document) (edit : Edit) (k : ℕ) (e entry : EntryReading) → IsDocument d
    → Agrees edit.start d after → edit.start < edit.end → slice_get d.says.entries k ≡ Some e
    → AgreesIn edit.start e entry
    → (i : ℕ) (x : EntryReading) → slice_get d.says.entries i ≡ Some x
    → (y : EntryReading)
    × (slice_get (slice_set (map (moved_entry (moved_place edit)) after.says.entries) k entry) i ≡ Some y)
    × AgreesIn edit.start x y
other_entries d after edit k e entry read a some here agrees i x there =
    let all : List EntryReading = map (moved_entry (moved_place edit)) after.says.entries in
    let found = a.entries i x there in
    let moved : slice_get all i ≡ Some (moved_entry (moved_place edit) found.0) =
    slice_get-map (moved_entry (moved_place edit)) after.says.entries i
    ∙ ap (option_map (moved_entry (moved_place edit))) found.1 in
    elim (eqb_tells i k) [
      | inl same ↦
          let is : Some x ≡ Some e = sym there ∙ ap (slice_get d.says.entries) same.1 ∙ here in
          let x_is : x ≡ e = cc in (
            entry,
            subst (λ n. slice_get (slice_set all n entry) i ≡ Some entry) same.1
                (get_set all i (moved_entry (moved_place edit) found.0) entry moved),
            subst (λ z. AgreesIn edit.start z entry) (sym x_is) agrees,
          )
      | inr other ↦ (
        moved_entry (moved_place edit) found.0,
        get_set_other all k i entry other.1 ∙ moved,
        moved_agrees d edit i x found.0 read some there found.2,
      )
    ]

-- a document that agrees with another up to the start of an edit still agrees after the edit, if the new entry agrees too. The stretch of
-- the edit isn't empty
pub edited_agrees : (d after : Document) (edit : Edit) (k : ℕ) (e entry : EntryReading) → IsDocument d
    → Agrees edit.start d after → edit.start < edit.end → edit.start ≤ length after.text
    → slice_get d.says.entries k ≡ Some e
    → AgreesIn edit.start e entry → Agrees edit.start d (entry_edited after edit k entry)
edited_agrees d after edit k e entry read a some within here agrees = record {
  text = front edit.start edit.end edit.bytes after.text within ∙ a.text;
  entries = other_entries d after edit k e entry read a some here agrees;
}
