-- Names of commands that aren't names of accents or of letters, since they are too long or too short.
use Rattle.std.proofs.Common.{◌≡◌, ℕ, ◌≤◌, Bool, true, false, cond, List, [], ◌∷◌, length, refl, sym, ap, ◌∙◌, Option, Some, None, arith}
use Rattle.std.specs.Prelude.{bytes_eq, nat_lt, ◌||◌}
use Rattle.std.specs.List.{list_all, list_any}
use lib.Dec.{eqb}
use Rattle.std.specs.Cmp.Lexicographic.{bytes_decides}
use Rattle.std.proofs.lemmas.Bool.{and_parts, eqb-true, ltb-true}
use Rattle.bib_text.specs.Enums.{value_named}
use Rattle.bib_contents.specs.Commands.{accents, command_text}
use Rattle.bib_contents.proofs.CommandFacts.{accents_short}
use Rattle.edit_accents.specs.Accents.{letter_names, named_letter, only_character}

-- texts of two lengths aren't equal
differ : (xs ys : List ℕ) → (length xs ≡ length ys → ⊥) → bytes_eq xs ys ≡ false
differ xs ys other = by_value (bytes_eq xs ys) refl
  where
    by_value : (b : Bool) → bytes_eq xs ys ≡ b → bytes_eq xs ys ≡ false
    by_value true is = absurd (other (ap length ((bytes_decides xs ys).0 is)))
    by_value false is = is

no_row : {A : Type 0} (rows : List (List ℕ × A)) (name : List ℕ) → list_all (λ row. eqb (length row.0) 1) rows ≡ true
    → (length name ≡ 1 → ⊥) → value_named rows name ≡ None
no_row [] name short other = refl
no_row {A = A} (row ∷ rows) name short other =
    let parts = and_parts (eqb (length row.0) 1) (list_all (λ r. eqb (length r.0) 1) rows) short in
    ap (λ b. cond {A = Option A} b (Some row.1) (value_named rows name))
    (differ row.0 name (λ same. other (sym same ∙ eqb-true (length row.0) 1 parts.0)))
    ∙ no_row rows name parts.1 other

-- a text that isn't one character long is no name of an accent
pub no_accent : (name : List ℕ) → (length name ≡ 1 → ⊥) → value_named accents name ≡ None
no_accent name other = no_row accents name accents_short other

letters_short : list_all (λ name. nat_lt (length name) 3) letter_names ≡ true
letters_short = refl

none_longer : (names : List (List ℕ)) (name : List ℕ) → list_all (λ n. nat_lt (length n) 3) names ≡ true → 3 ≤ length name
    → list_any (bytes_eq name) names ≡ false
none_longer [] name short long = refl
none_longer (n ∷ names) name short long =
    let parts = and_parts (nat_lt (length n) 3) (list_all (λ m. nat_lt (length m) 3) names) short in
    ap (λ b. b || list_any (bytes_eq name) names)
    (differ name n (λ same. omega (arith, same, long, ltb-true (length n) 3 parts.0)))
    ∙ none_longer names name parts.1 long

-- a text of three characters or more is no name of a letter
pub no_letter : (name : List ℕ) → 3 ≤ length name → named_letter name ≡ None
no_letter name long =
    ap (λ b. cond {A = Option ℕ} b (only_character (command_text name None)) None) (none_longer letter_names name letters_short long)
