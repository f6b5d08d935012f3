-- Machinery: words of private contracts.
-- The effects of commands on their arguments.
use Rattle.std.specs.Prelude.{ℕ, Bool, not, List, [], ◌∷◌, ◌++◌, IsTrue}
use Rattle.std.specs.Str.{chars, IsUtf8}
use Rattle.unicode_normalization.specs.Forms.{Nfd, is_in_form}
use Rattle.bib_contents.specs.Commands.{with_mark}
use Rattle.bib_contents.specs.declared.commands.Effect.{Effect}
use Rattle.bib_contents.specs.declared.commands.Effect.TheVariants.{Mark, Symbol, Copyright, Unknown}
use Rattle.bib_text.specs.Characters as char

-- the text before the argument of a command with this name
abbrev pub before_argument : Effect → List ℕ → List ℕ
before_argument (Mark mark) name = []
before_argument (Symbol text) name = []
before_argument Copyright name = char.copyright_sign ∷ []
before_argument Unknown name = char.backslash ∷ (name ++ char.open_brace ∷ [])

-- the text of a command with this name and this argument
abbrev pub effect_text : Effect → List ℕ → List ℕ → List ℕ
effect_text (Mark mark) name argument = with_mark mark argument
effect_text (Symbol text) name argument = chars text.now
effect_text Copyright name argument = char.copyright_sign ∷ argument
effect_text Unknown name argument = char.backslash ∷ (name ++ char.open_brace ∷ (argument ++ char.close_brace ∷ []))

-- the mark of an effect doesn't decompose (NFD), and the text of a symbol is UTF-8
abbrev pub IsFit : Effect → Type 0
IsFit (Mark mark) = IsTrue (is_in_form Nfd (mark ∷ []))
IsFit (Symbol text) = IsUtf8 text.now
IsFit effect = Unit {0}
