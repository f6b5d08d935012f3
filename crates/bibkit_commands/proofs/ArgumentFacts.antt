-- Facts on the values of arguments.
use Rattle.std.proofs.Common.{◌≡◌, ℕ, Bool, true, false, List, [], ◌∷◌, Some, None, Ok, Err, Option, Result}
use Rattle.std.proofs.Common.{refl, sym, ap, arith, rules}
use Rattle.std.specs.Prelude.{codes, bytes_eq, unwrap_or, if◌then◌else◌}
use Rattle.std.specs.Option.{option_map_or}
use Rattle.std.specs.Result.{OkIff, result_ok}
use Rattle.std.specs.declared.str.ParseBoolError.{ParseBoolError}
use Rattle.std.proofs.lemmas.Bool.{and_from, and_parts}
use Rattle.std.proofs.lemmas.Bool.Decides.{nat_tests}
use Rattle.std.proofs.lemmas.Slice.Eq.{bytes_eq-Decides}
use Rattle.std.specs.Str.{all_ascii_digits}
use Rattle.std.specs.Str.Parse.{AllDigits, IsNumeral, without_leading_plus, ParsesUnsigned, ParsesBool}
use Rattle.std.proofs.lemmas.Str.Parse.{tells_digits, tells_all_ascii_digits}
use Rattle.clap.specs.Matches.{ReadsOne}
use Rattle.bibkit_commands.specs.Arguments.{is_digits, is_number_text, number_in}

digits_if : (ds : List ℕ) → AllDigits 10 ds → all_ascii_digits ds ≡ true
digits_if [] h = refl
digits_if (c ∷ cs) h =
    let parts = tells_digits.parts c cs h in
    tells_all_ascii_digits.more c cs parts.0 (digits_if cs parts.1)

digits_from : (ds : List ℕ) → all_ascii_digits ds ≡ true → AllDigits 10 ds
digits_from [] h = search rules
digits_from (c ∷ cs) h =
    let parts = tells_all_ascii_digits.parts c cs h in
    tells_digits.more c cs parts.0 (digits_from cs parts.1)

-- a text that parses as a number is digits
pub digits_of_numeral : (text : List ℕ) → IsNumeral 10 text → is_digits text ≡ true
digits_of_numeral [] h = absurd (omega (arith, h.0))
digits_of_numeral (c ∷ cs) h = digits_if (c ∷ cs) h.1

pub numeral_of_digits : (text : List ℕ) → is_digits text ≡ true → IsNumeral 10 text
numeral_of_digits [] h = absurd (let bad : false ≡ true = h in cc)
numeral_of_digits (c ∷ cs) h = (omega arith, digits_from (c ∷ cs) h)

-- the value of a parsed text, by a test for the fact that decides the parse
read_if : {E : Type 0} (b : Bool) (P : Type 0) (v : ℕ) (r : Result ℕ E) → (b ≡ true → P) → (P → b ≡ true) → OkIff r P v
    → result_ok r ≡ (if b then Some v else None)
read_if true P v (Ok x) to from h = ap Some h.1
read_if true P v (Err e) to from h = absurd (h (to refl))
read_if false P v (Ok x) to from h = let bad : false ≡ true = from h.0 in absurd (cc)
read_if false P v (Err e) to from h = refl

-- a text that parses as a number of `usize` is the number of `number_in`, and any other text has none
pub number_read : {E : Type 0} (text : List ℕ) (r : Result ℕ E) → ParsesUnsigned 64 10 text r → result_ok r ≡ number_in text
unfolding number_in
number_read text r h =
    read_if (is_number_text text) _ _ r
    (λ is. let parts = and_parts _ _ is in (numeral_of_digits (without_leading_plus text) parts.0, grind (arith, nat_tests, parts.1)))
    (λ p. and_from _ _ (digits_of_numeral (without_leading_plus text) p.0) (grind (arith, nat_tests, p.1)))
    h

not_true : (text : List ℕ) → (text ≡ codes "true" → ⊥) → (b : Bool) → bytes_eq text (codes "true") ≡ b → b ≡ false
not_true text isnt true is = absurd (isnt ((bytes_eq-Decides text (codes "true")).0 is))
not_true text isnt false is = refl

-- the value of a flag, by the text that clap reads of it
pub flag_read : (text : Option (List ℕ)) (r : Option Bool) → (text ≡ None → r ≡ None)
    → ((t : List ℕ) → text ≡ Some t → ReadsOne {T = Bool} {E = ParseBoolError} ParsesBool t r)
    → unwrap_or r false ≡ option_map_or (λ t. bytes_eq t (codes "true")) text false
flag_read None r none value = ap (λ o. unwrap_or o false) (none refl)
flag_read (Some t) (Some true) none value = sym (ap (λ s. bytes_eq s (codes "true")) (value t refl))
flag_read (Some t) (Some false) none value = sym (ap (λ s. bytes_eq s (codes "true")) (value t refl))
flag_read (Some t) None none value = sym (not_true t (value t refl).1.0 _ refl)
