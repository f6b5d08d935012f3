-- The notes on fields of parents that entries lack.
use Rattle.std.proofs.Common.{◌≡◌, ℕ, ◌+◌, ◌<◌, List, [], ◌∷◌, ◌++◌, length, take, get_or, append-nil, sym, ap, ◌∙◌}
use Rattle.std.proofs.lemmas.List.{map-append, take_more}
use Rattle.std.proofs.lemmas.Grind.{flat_map-append}
use Rattle.std.specs.List.{flat_map}
use Rattle.bib_source.specs.Positions.{position_at}
use Rattle.edit_resolve.specs.Uninherited.{Uninherited}
use Rattle.edit_resolve.specs.Views.{uninherited_list, uninherited_row}
use Rattle.edit_resolve.specs.declared.uninherited.UninheritedFields.{UninheritedFields}
use Rattle.bibkit_edits.specs.UninheritedNotes.{uninherited_lines, uninherited_note}

-- the notes up to an index are those before it, and the note at it
pub notes_more : (name text : List ℕ) (xs : List UninheritedFields) (i : ℕ) (x : UninheritedFields) → i < length xs → x ≡ get_or xs i x
    → (notes old : List ℕ) → old ≡ uninherited_lines name text (uninherited_list (take i xs))
    → notes ≡ old ++ uninherited_note name (position_at text (uninherited_row x).reference.name.start) (uninherited_row x)
    → notes ≡ uninherited_lines name text (uninherited_list (take (i + 1) xs))
notes_more name text xs i x within is notes old before more =
    let each : Uninherited → List ℕ = λ u. uninherited_note name (position_at text u.reference.name.start) u in
    let last : uninherited_list (take (i + 1) xs) ≡ uninherited_list (take i xs) ++ uninherited_row x ∷ [] =
    ap uninherited_list (take_more xs i x within ∙ ap (λ y. take i xs ++ y ∷ []) (sym is))
    ∙ map-append uninherited_row (take i xs) (x ∷ []) in
    more ∙ ap (λ l. l ++ each (uninherited_row x)) before
    ∙ ap (λ l. flat_map each (uninherited_list (take i xs)) ++ l) (sym (append-nil (each (uninherited_row x))))
    ∙ sym (flat_map-append each (uninherited_list (take i xs)) (uninherited_row x ∷ [])) ∙ ap (flat_map each) (sym last)
