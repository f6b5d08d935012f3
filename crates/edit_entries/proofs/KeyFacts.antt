-- Facts about keys and the results of tests.
use Rattle.std.proofs.Common.{◌≡◌, ◌<◌, ℕ, Bool, true, false, List, [], ◌∷◌, length, sym, ◌∙◌, arith}
use Rattle.std.specs.Prelude.{MatchBool, not, ◌==◌}
use Rattle.std.proofs.lemmas.Bool.{and_parts, eqb-true}
use Rattle.bib_text.specs.Places.{Place, Run}
use Rattle.bib_text.specs.Places.Run.{stop, step}
use Rattle.bib_syntax.specs.Characters.{is_key}
use Rattle.edit_entries.specs.Documents.{CanBeKey}
use Rattle.edit_entries.specs.NewNames.{CanBeNewKey, is_new_key, is_unsafe_in_key}

-- if a test returns false, the second alternative of its contract is true
pub on_no : (P Q : Type 0) (answer : Bool) → answer ≡ false → MatchBool answer P Q → Q
on_no P Q true is known = absurd (let clash : true ≡ false = is in cc)
on_no P Q false is known = known

-- if a test returns true, the first alternative of its contract is true
pub on_yes : (P Q : Type 0) (answer : Bool) → answer ≡ true → MatchBool answer P Q → P
on_yes P Q true is known = known
on_yes P Q false is known = absurd (let clash : true ≡ false = sym is in cc)

-- a text for which a test of emptiness is true isn't longer than 0
pub empty_text : (text : List ℕ) (is_empty : Bool) → is_empty ≡ (length text == 0) → is_empty ≡ true → 0 < length text → ⊥
empty_text text is_empty is empty some =
    let none : length text ≡ 0 = eqb-true (length text) 0 (sym is ∙ empty) in
    absurd (omega (arith, none, some))

pub some_text : (text : List ℕ) (is_empty : Bool) → is_empty ≡ (length text == 0) → is_empty ≡ false → 0 < length text
some_text [] is_empty is filled = absurd (cc)
some_text (b ∷ text) is_empty is filled = omega arith

-- a run of characters that a new key may contain is a run of characters of keys
key_run : {u v : Place} → Run is_new_key u v → Run is_key u v
key_run stop = stop
key_run (step {c = c} char passes rest) = step char (and_parts (is_key c) (not (is_unsafe_in_key c)) passes).0 (key_run rest)

pub key_of_new : (text : List ℕ) → CanBeNewKey text → CanBeKey text
key_of_new text can = record { some = can.some; run = key_run can.run }
