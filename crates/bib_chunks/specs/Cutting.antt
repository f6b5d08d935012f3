-- Machinery: words of private contracts.
-- How lists are cut piece by piece.
use Rattle.std.specs.Prelude.{◌≡◌, ℕ, ◌+◌, true, false, List, ◌∷◌, ◌++◌, length, codes, encode_utf8_all}
use Rattle.std.specs.Str.{IsUtf8, chars}
use Rattle.bib_chunks.specs.declared.chunk.Chunk.{Chunk}
use Rattle.bib_text.specs.declared.spanned.Spanned.{Spanned}
use Rattle.bib_chunks.specs.declared.chunk.cuts.Parts.{Parts}
use Rattle.bib_chunks.specs.declared.chunk.cuts.Separator.{Separator}
use Rattle.bib_chunks.specs.declared.chunk.cuts.Separator.TheVariants.{Comma, And}
use Rattle.bib_chunks.specs.Cuts.{onto, joined_parts, begins_with_space, between_commas, between_ands}

-- the texts between the separators of a text, by characters
abbrev pub between_cuts : Separator → List ℕ → List (List ℕ)
between_cuts Comma = between_commas
between_cuts And = between_ands false

-- the length of a separator in bytes
abbrev pub width : Separator → ℕ
width Comma = 1
width And = 3

-- the parts of a list: the finished ones, then the parts after them, of which the first begins with the current one
abbrev pub all_parts : Parts → List (List (Spanned Chunk)) → List (List (Spanned Chunk))
all_parts parts following = parts.done ++ onto parts.last following

-- reading these pieces takes `old` to `new`, whatever parts come after them
abbrev pub ReadsPieces : Parts → Parts → List (Spanned Chunk) → Type 0
ReadsPieces old new pieces =
    (following : List (List (Spanned Chunk))) → all_parts new following ≡ all_parts old (joined_parts pieces following)

-- `before` and `following` are the texts before and after the first separator of a text, both UTF-8
pub record IsFirstCut (separator : Separator) (text before following : List ℕ) : Type 0 where
  pub cut : between_cuts separator (chars text) ≡ chars before ∷ between_cuts separator (chars following)
  pub spells : before ≡ encode_utf8_all (chars before)
  pub utf8 : IsUtf8 following
  pub size : length text ≡ length before + (width separator + length following)

-- a text is the word `and` and then `following`, which begins with white space
pub record IsAnd (text following : List ℕ) : Type 0 where
  pub word : text ≡ codes "and" ++ following
  pub space : begins_with_space (chars following) ≡ true

-- a text doesn't begin with the word `and` and then white space
abbrev pub NoAnd : List ℕ → Type 0
NoAnd text = (following : List ℕ) → IsAnd text following → ⊥

-- `before` and `following` are UTF-8. They are the texts before and after the first word `and` of a text that has white space
-- right before and after it.
pub record IsFirstAnd (text before following : List ℕ) : Type 0 where
  pub word : text ≡ before ++ (codes "and" ++ following)
  pub cut : between_ands false (chars text) ≡ chars before ∷ between_ands false (chars following)
  pub spells : before ≡ encode_utf8_all (chars before)
  pub utf8 : IsUtf8 following
