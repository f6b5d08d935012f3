-- How a parser moves past the parts of a quoted text one by one.
use Rattle.std.proofs.Common.{◌≡◌, ℕ, Bool, true, refl, subst, MatchOption, Option, None, Some}
use Rattle.std.specs.Prelude.{not, ◌&&◌, ◌==◌}
use Rattle.bib_text.specs.Places.{Place, CharAt, Run, Stops, AtEnd}
use Rattle.bib_text.specs.Places.Run.{stop, step}
use Rattle.bib_text.proofs.PlaceFacts.{same_char, char_clash, pass_clash, no_char_at_end}
use Rattle.bib_syntax.specs.Grammar.{QuotedParts}
use Rattle.bib_syntax.specs.Grammar.QuotedParts.{none, plain, hidden}

-- whether a character is neither a quote nor a backslash
abbrev pub is_quotable : ℕ → Bool
is_quotable c = not (c == 34) && not (c == 92)

-- the text from `u` to a quote is parts of a quoted text if and only if the text from `v` to this quote is
pub record SameQuoted (u v : Place) : Type 0 where
  pub there : (x y : Place) → QuotedParts v x → CharAt x 34 y → QuotedParts u x
  pub back : (x y : Place) → QuotedParts u x → CharAt x 34 y → QuotedParts v x

pub same_quoted : (u : Place) → SameQuoted u u
same_quoted u = record { there = λ x y p c. p; back = λ x y p c. p }

pub quoted_then : {u v w : Place} → SameQuoted u v → SameQuoted v w → SameQuoted u w
quoted_then first second = record {
  there = λ x y p c. first.there x y (second.there x y p c) c;
  back = λ x y p c. second.back x y (first.back x y p c) c;
}

run_there : {u v x : Place} → Run is_quotable u v → QuotedParts v x → QuotedParts u x
run_there stop parts = parts
run_there (step char passes rest) parts = plain char passes (run_there rest parts)

-- parts from a plain character up to a quote are also parts from the place after this character
pub plain_back : {u v x y : Place} {c : ℕ} → CharAt u c v → is_quotable c ≡ true → QuotedParts u x → CharAt x 34 y → QuotedParts v x
plain_back char passes none quote = absurd (pass_clash is_quotable char passes quote refl)
plain_back {u} {v} {x} char passes (plain char' passes' parts) quote = subst (λ p. QuotedParts p x) (same_char char' char).1 parts
plain_back char passes (hidden slash any parts) quote = absurd (pass_clash is_quotable char passes slash refl)

run_back : {u v x y : Place} → Run is_quotable u v → QuotedParts u x → CharAt x 34 y → QuotedParts v x
run_back stop parts quote = parts
run_back (step char passes rest) parts quote = run_back rest (plain_back char passes parts quote) quote

-- moving past a run of plain characters doesn't change which quote closes the text
pub quoted_run : {u v : Place} → Run is_quotable u v → SameQuoted u v
quoted_run run = record { there = λ x y p c. run_there run p; back = λ x y p c. run_back run p c }

-- from the end of the text, no quote closes a quoted text
quoted_end : {u x y : Place} → AtEnd u → QuotedParts u x → CharAt x 34 y → ⊥
quoted_end end none quote = no_char_at_end end quote
quoted_end end (plain char passes parts) quote = no_char_at_end end char
quoted_end end (hidden slash any parts) quote = no_char_at_end end slash

-- parts from a backslash up to a quote are parts from the place after the character that it escapes
pub hidden_back : {u v w x y : Place} {c : ℕ} → CharAt u 92 v → CharAt v c w → QuotedParts u x → CharAt x 34 y → QuotedParts w x
hidden_back slash char none quote = absurd (char_clash slash quote refl)
hidden_back slash char (plain char' passes' parts) quote = absurd (pass_clash is_quotable char' passes' slash refl)
hidden_back {u} {v} {w} {x} slash char (hidden {w = w'} {c = c'} slash' char' parts) quote =
    let moved : CharAt v c' w' = subst (λ p. CharAt p c' w') (same_char slash' slash).1 char' in
    subst (λ p. QuotedParts p x) (same_char moved char).1 parts

hidden_end_back : {u v x y : Place} → CharAt u 92 v → AtEnd v → QuotedParts u x → CharAt x 34 y → ⊥
hidden_end_back slash end none quote = char_clash slash quote refl
hidden_end_back slash end (plain char passes parts) quote = pass_clash is_quotable char passes slash refl
hidden_end_back slash end (hidden {w = w'} {c = c'} slash' char' parts) quote =
    no_char_at_end end (subst (λ p. CharAt p c' w') (same_char slash' slash).1 char')

-- moving past a backslash and the character after it, if there is one, doesn't change which quote closes the text
pub quoted_hidden : {u v w : Place} (taken : Option ℕ) → CharAt u 92 v
    → MatchOption taken (AtEnd v × (w ≡ v)) (λ c. CharAt v c w) → SameQuoted u w
quoted_hidden {u} {v} {w} None slash ended = record {
  there = λ x y p c. absurd (quoted_end ended.0 (subst (λ q. QuotedParts q x) ended.1 p) c);
  back = λ x y p c. absurd (hidden_end_back slash ended.0 p c);
}
quoted_hidden (Some c) slash char = record { there = λ x y p q. hidden slash char p; back = λ x y p q. hidden_back slash char p q }

-- no quote closes a quoted text from a place without a plain character, a backslash or a quote
pub quoted_stuck : {u x y : Place} → Stops is_quotable u → ((v : Place) → CharAt u 34 v → ⊥)
    → ((v : Place) → CharAt u 92 v → ⊥) → QuotedParts u x → CharAt x 34 y → ⊥
quoted_stuck stops quote slash none closing = quote _ closing
quoted_stuck stops quote slash (plain char passes parts) closing = pass_clash is_quotable char passes char (stops _ _ char)
quoted_stuck stops quote slash (hidden char any parts) closing = slash _ char
