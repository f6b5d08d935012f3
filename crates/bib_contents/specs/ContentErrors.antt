-- Meaning: words of public contracts.
-- The kind of error of contents that can't be parsed: how each rule of `Reads` fails.
use Rattle.std.specs.Prelude.{◌≡◌, ℕ, Bool, true, false, ◌==◌, List, [], ◌∷◌, ◌++◌, Some}
use Rattle.std.specs.List.{list_any}
use Rattle.bib_chunks.specs.Styled.{Atom}
use Rattle.bib_syntax.specs.declared.raw.Token.TheVariants.{ClosingBrace}
use Rattle.bib_syntax.specs.declared.raw.ParseErrorKind.{ParseErrorKind}
use Rattle.bib_syntax.specs.declared.raw.ParseErrorKind.TheVariants.{UnexpectedEof, Unexpected}
use Rattle.bib_contents.specs.Contents.{ContentUnit, IsNext, Reads, balances, depth_after, inner_text, is_closable, is_name, is_whole_name}
use Rattle.bib_text.specs.Characters as char

-- a text begins with a unit that doesn't end, outside verbatim fields. It is math without a second dollar sign, a
-- backslash at the end of the text, or a command whose argument has no closing brace
pub data UnitFails : Bool → List ℕ → Type 0 where
  dollar : {text : List ℕ} → list_any (λ c. c == char.dollar) text ≡ false → UnitFails false (char.dollar ∷ text)
  backslash : UnitFails false (char.backslash ∷ [])
  brace : (name text : List ℕ) → is_name name ≡ true → is_whole_name name (char.open_brace ∷ text) ≡ true
      → ((inside rest : List ℕ) → text ≡ inside ++ char.close_brace ∷ rest → balances 0 inside ≡ true → ⊥)
      → UnitFails false (char.backslash ∷ (name ++ char.open_brace ∷ text))

-- a text fails with this kind of error, with `depth` braces open before it. It fails at a closing brace that has no
-- opening one, or at a unit that doesn't end. Otherwise the argument of its first unit fails, or that unit is parsed
-- and the rest fails
pub data ContentFails : Bool → ℕ → List ℕ → ParseErrorKind → Type 0 where
  unopened : {is_verbatim : Bool} {depth : ℕ} {u : ContentUnit} {text rest : List ℕ} → IsNext is_verbatim u text rest
      → is_closable depth u ≡ false
      → ContentFails is_verbatim depth text (Unexpected ClosingBrace)
  ended : {is_verbatim : Bool} {depth : ℕ} {text : List ℕ} → UnitFails is_verbatim text → ContentFails is_verbatim depth text UnexpectedEof
  inside : {is_verbatim : Bool} {depth : ℕ} {u : ContentUnit} {text rest argument : List ℕ} {kind : ParseErrorKind}
      → IsNext is_verbatim u text rest
      → inner_text u ≡ Some argument → ContentFails false 0 argument kind → ContentFails is_verbatim depth text kind
  following : {is_verbatim : Bool} {depth : ℕ} {u : ContentUnit} {text rest : List ℕ} {kind : ParseErrorKind}
      → IsNext is_verbatim u text rest
      → is_closable depth u ≡ true
      → ((argument : List ℕ) → inner_text u ≡ Some argument → (atoms : List Atom) × Reads false 0 argument atoms)
      → ContentFails is_verbatim (depth_after depth u) rest kind → ContentFails is_verbatim depth text kind
