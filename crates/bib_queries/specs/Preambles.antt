-- Meaning: words of public contracts.
-- The preambles of a file. The file grammar reads one text in quotes in each, and its reading joins them by ` # `.
use Rattle.std.specs.Prelude.{◌≡◌, ℕ, Bool, true, false, not, ◌&&◌, ◌==◌, List, [], ◌∷◌, ◌++◌, codes, cond}
use Rattle.std.specs.List.{AllByRecursion}
use Rattle.bib_text.specs.Characters as char

-- whether a backslash escapes each quote of a text, and no backslash escapes the byte after the text; `is_hidden`: a backslash
-- escapes its first byte
abbrev pub are_quotes_hidden : Bool → List ℕ → Bool
are_quotes_hidden is_hidden [] = not is_hidden
are_quotes_hidden true (b ∷ bs) = are_quotes_hidden false bs
are_quotes_hidden false (b ∷ bs) =
    cond (b == char.backslash) (are_quotes_hidden true bs) (not (b == char.quote) && are_quotes_hidden false bs)

-- a text in quotes
abbrev pub quoted_text : List ℕ → List ℕ
quoted_text inside = codes "\"" ++ (inside ++ codes "\"")

-- texts in quotes, joined by ` # `
abbrev pub joined_quotes : List (List ℕ) → List ℕ
joined_quotes [] = []
joined_quotes (inside ∷ []) = quoted_text inside
joined_quotes (inside ∷ (next ∷ rest)) = quoted_text inside ++ (codes " # " ++ joined_quotes (next ∷ rest))

-- whether a text can be between quotes
abbrev pub CanBeQuoted : List ℕ → Type 0
CanBeQuoted inside = are_quotes_hidden false inside ≡ true

-- whether `joined` consists of these texts, in order, each in quotes and joined by ` # `; each text can be between quotes
pub record ArePreambles (joined : List ℕ) (insides : List (List ℕ)) : Type 0 where
  pub each : AllByRecursion CanBeQuoted insides
  pub is : joined ≡ joined_quotes insides

-- a block with a preamble whose quotes contain the text `inside`, and a line end
abbrev pub preamble_line : List ℕ → List ℕ → List ℕ
preamble_line line_end inside = codes "@preamble{\"" ++ (inside ++ (codes "\"}" ++ line_end))
