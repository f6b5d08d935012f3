-- The text between the name and the value of a new field is an equals sign with white space around it.
use Rattle.std.proofs.Common.{◌≡◌, ℕ, ◌<◌, Bool, true, false, cond, List, [], ◌∷◌, ◌++◌, codes, refl, sym, subst, arith, Option, Some, None}
use Rattle.std.specs.Prelude.{◌&&◌, ◌==◌, ◌||◌, max, ◌-◌, length}
use Rattle.std.specs.Char.{is_whitespace}
use Rattle.std.specs.List.{list_all}
use Rattle.std.proofs.lemmas.Bool.Decides.{nat_tests}
use Rattle.std.proofs.lemmas.Bool.{and_parts}
use Rattle.bib_syntax.specs.Reading.{FieldReading}
use Rattle.edit_entries.specs.Layouts.{after_equals, before_equals, is_blank_byte, new_sign, padding_or, sign_at, sign_in_column, wide_column}
use Rattle.edit_entries.proofs.NewFieldFacts.{AreSigns, IsSign, usual_sign}
use Rattle.edit_entries.proofs.StandsFacts.{AreWhite, spaces_white}

blank_white : (b : ℕ) → is_blank_byte b ≡ true → (b < 128) × (is_whitespace b ≡ true)
blank_white b blank = by_case (b == 32) (b == 9) refl refl blank
  where
    by_case : (s t : Bool) → (b == 32) ≡ s → (b == 9) ≡ t → (s || t) ≡ true → (b < 128) × (is_whitespace b ≡ true)
    by_case true t is tab some =
        let same : b ≡ 32 = grind (arith, nat_tests) in
        (omega (arith, same), subst (λ x. is_whitespace x ≡ true) (sym same) refl)
    by_case false true is tab some =
        let same : b ≡ 9 = grind (arith, nat_tests) in
        (omega (arith, same), subst (λ x. is_whitespace x ≡ true) (sym same) refl)
    by_case false false is tab some = absurd (cc)

blanks_white : (bytes : List ℕ) → list_all is_blank_byte bytes ≡ true → AreWhite bytes
blanks_white [] all = tt
blanks_white (b ∷ bs) all =
    let parts = and_parts (is_blank_byte b) (list_all is_blank_byte bs) all in
    (blank_white b parts.0, blanks_white bs parts.1)

sign_in_column_is : (text name : List ℕ) (column : Option ℕ) (f : FieldReading) → IsSign (sign_in_column text name column f)
sign_in_column_is text name column f =
    by_case (list_all is_blank_byte (before_equals text f) && list_all is_blank_byte (after_equals text f)) refl
  where
    padded : (column : Option ℕ) → AreWhite (before_equals text f) → AreWhite (padding_or column name (before_equals text f))
    padded (Some column) white = spaces_white (max 1 (column - length name))
    padded None white = white

    by_case : (b : Bool) → (list_all is_blank_byte (before_equals text f) && list_all is_blank_byte (after_equals text f)) ≡ b
        → IsSign (cond b (padding_or column name (before_equals text f) ++ 61 ∷ after_equals text f) (codes " = "))
    by_case false is = usual_sign
    by_case true is =
        let parts = and_parts (list_all is_blank_byte (before_equals text f)) (list_all is_blank_byte (after_equals text f)) is in
        record {
          before = padding_or column name (before_equals text f);
          after = after_equals text f;
          is = refl;
          white = padded column (blanks_white (before_equals text f) parts.0);
          white' = blanks_white (after_equals text f) parts.1;
        }

pub new_sign_is : (text name : List ℕ) (first : FieldReading) (fields : List FieldReading) → IsSign (new_sign text name first fields)
new_sign_is text name first fields = sign_in_column_is text name (wide_column text fields) first

pub signs_at : (text : List ℕ) (f : FieldReading) (fields : List FieldReading) → AreSigns (sign_at text f fields)
signs_at text f fields name = new_sign_is text name f (f ∷ fields)
