-- The loop over the fields of an entry, each with the fields after it.
use Rattle.std.proofs.Common.{◌≡◌, ℕ, ◌+◌, ◌<◌, Bool, List, ◌∷◌, ◌++◌, length, map, drop, get_or, sym, ap, ◌∙◌, append_assoc, Option}
use Rattle.std.specs.Prelude.{◌&&◌}
use Rattle.std.proofs.lemmas.List.{drop_more}
use Rattle.bib_syntax.specs.Reading.{FieldReading}
use Rattle.edit_entries.specs.Edits.{Edit}
use Rattle.edit_entries.specs.Changes.{edits_of_field, edits_of_fields}
use Rattle.edit_convert.specs.Conversions.{Replacement, field_changes, keep_comments, keeps_comments, with_missing_type}
use Rattle.edit_entries.specs.Placed.{IsNamePlaced, IsPlaced, IsSignPlaced}
use Rattle.edit_strings.proofs.ListFacts.{all_step}
use Rattle.edit_convert.specs.Tables.{AreFieldsInText, pending_after, pending_change}
use Rattle.edit_convert.proofs.PendingFacts.{first_change}

-- the edits of the last fields of an entry, by the replacement of each and by the value of `type` that is still to be added
abbrev edits_from : (FieldReading → Option Replacement) → List ℕ → List FieldReading → Option (List ℕ) → List FieldReading → List Edit
edits_from replacement text fields pending fs =
    edits_of_fields text fs (with_missing_type text fields pending fs (field_changes text fields replacement fs))

module _ {A : Type 0} (view : A → FieldReading) (xs : List A) (i : ℕ) (x : A) (within : i < length xs) (is : x ≡ get_or xs i x) where
  left : map view (drop i xs) ≡ view x ∷ map view (drop (i + 1) xs)
  left = ap (map view) (drop_more xs i x within ∙ ap (λ y. y ∷ drop (i + 1) xs) (sym is))

  -- after the edits of one more field are added, the edits so far and those of the fields after it are those of all fields
  pub edits_step : (replacement : FieldReading → Option Replacement) (pending waits : Option (List ℕ)) (text : List ℕ)
      (fields : List FieldReading) (following : List A) (old new all : List Edit) → following ≡ drop (i + 1) xs
      → new ≡ old ++ edits_of_field text (view x) (map view following)
      (pending_change text fields (view x) pending (map view following) (replacement (view x)))
      → waits ≡ pending_after pending (replacement (view x))
      → old ++ edits_from replacement text fields pending (map view (drop i xs)) ≡ all
      → new ++ edits_from replacement text fields waits (map view (drop (i + 1) xs)) ≡ all
  edits_step replacement pending waits text fields following old new all are added waits_is so_far =
      let rest : List FieldReading = map view (drop (i + 1) xs) in
      let after : Option (List ℕ) = pending_after pending (replacement (view x)) in
      let here : List A → List Edit =
      λ (l : List A).
      edits_of_field text (view x) (map view l) (pending_change text fields (view x) pending (map view l) (replacement (view x))) in
      ap (λ w. new ++ edits_from replacement text fields w rest) waits_is
      ∙ ap (λ l. l ++ edits_from replacement text fields after rest) (added ∙ ap (λ l. old ++ here l) are)
      ∙ append_assoc old (here (drop (i + 1) xs)) (edits_from replacement text fields after rest)
      ∙ ap (λ cs. old ++ edits_of_fields text (view x ∷ rest) cs)
      (sym (first_change text fields (view x) pending rest (replacement (view x)) (field_changes text fields replacement rest)))
      ∙ ap (λ l. old ++ edits_from replacement text fields pending l) (sym left) ∙ so_far

  -- joining keeps the comments from a field on exactly if it keeps the comment after this field and those from the next field on
  pub goes_step : (text : List ℕ) (following : List A) (can all : Bool) → following ≡ drop (i + 1) xs
      → can ≡ keeps_comments text (view x) (map view following) → all ≡ keep_comments text (map view (drop i xs))
      → all ≡ can && keep_comments text (map view (drop (i + 1) xs))
  goes_step text following can all are is so_far =
      let rest : Bool = keep_comments text (map view (drop (i + 1) xs)) in
      so_far ∙ ap (keep_comments text) left ∙ ap (λ l. keeps_comments text (view x) (map view l) && rest) (sym are)
      ∙ ap (λ b. b && rest) (sym is)

-- ---- fields that may be cut out of the text

-- the first of the fields that are left, with the texts around its equals sign, may be cut out of the text
pub in_text_here : {A : Type 0} (view : A → FieldReading) (text : List ℕ) (xs : List A) (i : ℕ) (x : A) → i < length xs → x ≡ get_or xs i x
    → AreFieldsInText text (map view (drop i xs)) → IsNamePlaced text (view x) × IsPlaced text (view x) × IsSignPlaced text (view x)
in_text_here view text xs i x within is placed = (
  (all_step view xs i x within is (IsNamePlaced text) placed.names).0,
  (all_step view xs i x within is (IsPlaced text) placed.values).0,
  (all_step view xs i x within is (IsSignPlaced text) placed.signs).0,
)

-- the others may be cut out of it, too
pub in_text_after : {A : Type 0} (view : A → FieldReading) (text : List ℕ) (xs : List A) (i : ℕ) (x : A) → i < length xs
    → x ≡ get_or xs i x → AreFieldsInText text (map view (drop i xs)) → AreFieldsInText text (map view (drop (i + 1) xs))
in_text_after view text xs i x within is placed = record {
  names = (all_step view xs i x within is (IsNamePlaced text) placed.names).1;
  values = (all_step view xs i x within is (IsPlaced text) placed.values).1;
  signs = (all_step view xs i x within is (IsSignPlaced text) placed.signs).1;
}
