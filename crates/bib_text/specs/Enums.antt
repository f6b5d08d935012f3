-- Meaning: words of public contracts.
-- Tables of names and their values, and lists of words.
use Rattle.std.specs.Prelude.{ℕ, List, [], ◌∷◌, Option, Some, None, if◌then◌else◌, ◌==◌, bytes_eq, map}
use Rattle.bib_text.specs.Characters as char

-- the value in the first row whose name is `text`, or `None` if there is no such row
abbrev pub value_named : {A : Type 0} → List (List ℕ × A) → List ℕ → Option A
value_named [] text = None
value_named (row ∷ rows) text = if bytes_eq row.0 text then Some row.1 else value_named rows text

-- the table with one row for each of `values`: its name and the value
abbrev pub by_name : {A : Type 0} → (A → List ℕ) → List A → List (List ℕ × A)
by_name name values = map (λ value. (name value, value)) values

-- the words with `c` prepended to the first word; the one word `c` if there are no words
abbrev pub before_words : ℕ → List (List ℕ) → List (List ℕ)
before_words c [] = (c ∷ []) ∷ []
before_words c (word ∷ rest) = (c ∷ word) ∷ rest

-- the parts of a text between its spaces (U+0020); parts may be empty, and the empty text has one empty part
abbrev pub between_spaces : List ℕ → List (List ℕ)
between_spaces [] = [] ∷ []
between_spaces (c ∷ text) = if c == char.space then [] ∷ between_spaces text else before_words c (between_spaces text)

-- the parts of a text between its spaces (U+0020), possibly empty, but none for the empty text
abbrev pub words : List ℕ → List (List ℕ)
words [] = []
words text = between_spaces text
