-- The edits of the fields of an entry, field by field.
use Rattle.std.proofs.Common.{◌≡◌, ℕ, zero, suc, ◌+◌, ◌<◌, true, false, cond, List, [], ◌∷◌, ◌++◌, drop, length, refl, sym, ap, ◌∙◌, arith}
use Rattle.std.specs.List.{list_any}
use Rattle.bib_syntax.specs.Reading.{FieldReading}
use Rattle.edit_entries.specs.Changes.{edits_of_field, edits_of_fields}
use Rattle.edit_entry_merge.specs.Mixed.{mixed_field_changes, last_changes, picked_change}
use Rattle.edit_entry_merge.specs.Picks.{FieldPick, is_staying}
use Rattle.edit_entry_merge.specs.Working.{AreEditable}

module _ (text other : List ℕ) (all added : List FieldReading) (p : FieldPick) (ps : List FieldPick) (f : FieldReading)
    (fs : List FieldReading) where
  -- if a later field stays, the edit of a field is by its pick
  pub own_step : list_any is_staying ps ≡ true
      → edits_of_fields text (f ∷ fs) (mixed_field_changes text other all added (p ∷ ps) (f ∷ fs))
      ≡ edits_of_field text f fs (picked_change other p) ++ edits_of_fields text fs (mixed_field_changes text other all added ps fs)
  own_step stays =
      ap
      (λ b.
      edits_of_fields text (f ∷ fs)
      (cond b (picked_change other p ∷ mixed_field_changes text other all added ps fs) (last_changes text other all f p fs added))) stays

  -- if no later field stays, the changes are those of the last field that stays
  pub last_step : list_any is_staying ps ≡ false
      → mixed_field_changes text other all added (p ∷ ps) (f ∷ fs) ≡ last_changes text other all f p fs added
  last_step none =
      ap (λ b. cond b (picked_change other p ∷ mixed_field_changes text other all added ps fs)
      (last_changes text other all f p fs added)) none

pub editable_rest : (text : List ℕ) (f : FieldReading) (fs : List FieldReading) → AreEditable text (f ∷ fs) → AreEditable text fs
editable_rest text f fs all = record { values = all.values.1; signs = all.signs.1; names = all.names.1 }

-- the elements from an index on are the one at the index and those after it
pub drop_some : {A : Type 0} (xs : List A) (i : ℕ) → i < length xs → (x : A) × (drop i xs ≡ x ∷ drop (i + 1) xs)
drop_some [] i within = absurd (omega (arith, within))
drop_some (x ∷ xs) zero within = (x, refl)
drop_some (x ∷ xs) (suc i) within =
    let rest = drop_some xs i (omega (arith, within)) in
    let next : suc i + 1 ≡ suc (i + 1) = omega arith in
    (rest.0, rest.1 ∙ ap (λ n. rest.0 ∷ drop n (x ∷ xs)) (sym next))
