-- Meaning: words of public contracts.
-- The text outside braces.
use Rattle.std.specs.Prelude.{ℕ, ◌==◌, ◌+◌, ◌-◌, List, [], ◌∷◌, ◌++◌, chars, encode_utf8_all, if◌then◌else◌}
use Rattle.bib_text.specs.Characters as char

-- the number of open braces after a character, if this many are open before it. A brace after a backslash counts, as in BibTeX.
abbrev pub open_braces_after : ℕ → ℕ → ℕ
open_braces_after depth c = if c == char.open_brace then depth + 1 else if c == char.close_brace then depth - 1 else depth

-- a character outside braces, as it is shown: an `x` for an opening brace, and nothing for a closing one
abbrev pub shown : ℕ → List ℕ
shown c = if c == char.open_brace then char.letter_x ∷ [] else if c == char.close_brace then [] else c ∷ []

-- the characters outside braces, after this many open braces. An `x` replaces each pair of braces with its contents. If a brace is never
-- closed, an `x` replaces the rest of the text. A closing brace without an opening one is removed.
abbrev pub outside : ℕ → List ℕ → List ℕ
outside depth [] = []
outside depth (c ∷ rest) = (if depth == 0 then shown c else []) ++ outside (open_braces_after depth c) rest

-- a text in which an `x` replaces each pair of braces with its contents, and also the text from a brace on that is never closed; a closing
-- brace without an opening one is removed
abbrev pub outside_braces : List ℕ → List ℕ
outside_braces text = encode_utf8_all (outside 0 (chars text))
