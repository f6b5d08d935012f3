-- Readings without byte offsets.
use Rattle.std.proofs.Common.{◌≡◌, ℕ, List, [], ◌∷◌, map, refl, ap, ◌∙◌}
use Rattle.bib_syntax.specs.Reading.{Piece, FieldReading, EntryReading, FileReading}
use Rattle.bib_syntax.specs.Reading.Piece.{literal, abbreviation}
use Rattle.edit_entries.specs.Edits.{moved_piece, moved_field, moved_entry, moved_file, placeless}

-- ---- readings without byte offsets

pub pieces_placeless : (move : ℕ → ℕ) (ps : List Piece)
    → map (moved_piece (λ n. 0)) (map (moved_piece move) ps) ≡ map (moved_piece (λ n. 0)) ps
pieces_placeless move [] = refl
pieces_placeless move (literal p ∷ ps) = ap (λ xs. moved_piece (λ n. 0) (literal p) ∷ xs) (pieces_placeless move ps)
pieces_placeless move (abbreviation p ∷ ps) = ap (λ xs. moved_piece (λ n. 0) (abbreviation p) ∷ xs) (pieces_placeless move ps)

pub field_placeless : (move : ℕ → ℕ) (f : FieldReading) → moved_field (λ n. 0) (moved_field move f) ≡ moved_field (λ n. 0) f
field_placeless move f =
    ap
    (λ ps.
    let g : FieldReading =
    record {
      name = record { text = f.name.text; start = 0; end = 0 };
      value = record { pieces = ps; start = 0; end = 0 };
    } in
    g) (pieces_placeless move f.value.pieces)

pub fields_placeless : (move : ℕ → ℕ) (fs : List FieldReading)
    → map (moved_field (λ n. 0)) (map (moved_field move) fs) ≡ map (moved_field (λ n. 0)) fs
fields_placeless move [] = refl
fields_placeless move (f ∷ fs) =
    ap (λ g. g ∷ map (moved_field (λ n. 0)) (map (moved_field move) fs)) (field_placeless move f)
    ∙ ap (λ gs. moved_field (λ n. 0) f ∷ gs) (fields_placeless move fs)

pub entry_placeless : (move : ℕ → ℕ) (e : EntryReading) → moved_entry (λ n. 0) (moved_entry move e) ≡ moved_entry (λ n. 0) e
entry_placeless move e =
    ap (λ fs. let r : EntryReading = record (moved_entry (λ n. 0) e) { fields = fs } in r)
    (fields_placeless move e.fields)

entries_placeless : (move : ℕ → ℕ) (es : List EntryReading)
    → map (moved_entry (λ n. 0)) (map (moved_entry move) es) ≡ map (moved_entry (λ n. 0)) es
entries_placeless move [] = refl
entries_placeless move (e ∷ es) =
    ap (λ x. x ∷ map (moved_entry (λ n. 0)) (map (moved_entry move) es)) (entry_placeless move e)
    ∙ ap (λ xs. moved_entry (λ n. 0) e ∷ xs) (entries_placeless move es)

pub file_placeless : (move : ℕ → ℕ) (says : FileReading) → placeless (moved_file move says) ≡ placeless says
file_placeless move says =
    let build : List EntryReading → List FieldReading → FileReading =
    λ (es : List EntryReading) (fs : List FieldReading).
    record { preamble = says.preamble; entries = es; abbreviations = fs } in
    ap (λ es. build es (map (moved_field (λ n. 0)) (map (moved_field move) says.abbreviations))) (entries_placeless move says.entries)
    ∙ ap (build (map (moved_entry (λ n. 0)) says.entries)) (fields_placeless move says.abbreviations)
