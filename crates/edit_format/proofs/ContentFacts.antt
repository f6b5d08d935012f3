-- The content of a reading doesn't depend on its spans.
use Rattle.std.proofs.Common.{◌≡◌, ℕ, List, [], ◌∷◌, ◌++◌, map, refl, ap, ◌∙◌}
use Rattle.std.proofs.lemmas.List.{map-append}
use Rattle.bib_syntax.specs.Reading.{FieldReading, EntryReading, FileReading, then}
use Rattle.edit_entries.specs.Edits.{moved_field, moved_entry, moved_file}
use Rattle.edit_entries.proofs.PlacelessFacts.{field_placeless, fields_placeless}
use Rattle.edit_format.specs.Formatted.{content, entry_content, field_in_lowercase}

lower_placeless : (move : ℕ → ℕ) (fs : List FieldReading)
    → map (moved_field (λ n. 0)) (map field_in_lowercase (map (moved_field move) fs))
    ≡ map (moved_field (λ n. 0)) (map field_in_lowercase fs)
lower_placeless move [] = refl
lower_placeless move (f ∷ fs) =
    ap (λ g. g ∷ map (moved_field (λ n. 0)) (map field_in_lowercase (map (moved_field move) fs)))
    (field_placeless move (field_in_lowercase f))
    ∙ ap (λ gs. moved_field (λ n. 0) (field_in_lowercase f) ∷ gs) (lower_placeless move fs)

pub entry_placeless : (move : ℕ → ℕ) (e : EntryReading) → entry_content (moved_entry move e) ≡ entry_content e
entry_placeless move e = ap (λ fs. let r : EntryReading = record (entry_content e) { fields = fs } in r) (lower_placeless move e.fields)

entries_placeless : (move : ℕ → ℕ) (es : List EntryReading) → map entry_content (map (moved_entry move) es) ≡ map entry_content es
entries_placeless move [] = refl
entries_placeless move (e ∷ es) =
    ap (λ x. x ∷ map entry_content (map (moved_entry move) es)) (entry_placeless move e)
    ∙ ap (λ xs. entry_content e ∷ xs) (entries_placeless move es)

-- a reading with these parts
file_with : List ℕ → List EntryReading → List FieldReading → FileReading
file_with preamble es fs = record { preamble = preamble; entries = es; abbreviations = fs }

pub file_placeless : (move : ℕ → ℕ) (says : FileReading) → content (moved_file move says) ≡ content says
unfolding file_with
file_placeless move says =
    ap (λ es. file_with says.preamble es (map (moved_field (λ n. 0)) (map (moved_field move) says.abbreviations)))
    (entries_placeless move says.entries)
    ∙ ap (file_with says.preamble (map entry_content says.entries)) (fields_placeless move says.abbreviations)

pub content_then : (first rest : FileReading) → content (then first rest) ≡ then (content first) (content rest)
unfolding file_with
content_then first rest =
    ap
    (λ es.
    file_with (then first rest).preamble es
    (map (moved_field (λ n. 0)) (first.abbreviations ++ rest.abbreviations)))
    (map-append entry_content first.entries rest.entries)
    ∙ ap (file_with (then first rest).preamble (map entry_content first.entries ++ map entry_content rest.entries))
    (map-append (moved_field (λ n. 0)) first.abbreviations rest.abbreviations)
