-- Meaning: words of public contracts.
-- The lines of a text, each with the line feed that ends it; the last may have none.
use Rattle.std.specs.Prelude.{ℕ, ◌==◌, List, [], ◌∷◌, if◌then◌else◌}
use Rattle.bib_text.specs.Characters as char

-- the lines with `byte` prepended to the first one; one line with only `byte` if there are no lines
abbrev pub before_first_line : ℕ → List (List ℕ) → List (List ℕ)
before_first_line byte [] = (byte ∷ []) ∷ []
before_first_line byte (line ∷ lines) = (byte ∷ line) ∷ lines

-- the lines of a text: a line feed ends a line, and any other byte is in the same line as the byte after it, if there is one
abbrev pub lines_of : List ℕ → List (List ℕ)
lines_of [] = []
lines_of (byte ∷ bytes) = if byte == char.line_feed then (byte ∷ []) ∷ lines_of bytes else before_first_line byte (lines_of bytes)
