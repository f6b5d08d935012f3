-- Meaning: words of public contracts.
-- Tables of texts: each row has a name and a text.
use Rattle.std.specs.Prelude.{ℕ, List, [], map, codes, unwrap_or}
use Prim.Native.String.{String}
use denote.Ref.{Bor}
use Rattle.bib_text.specs.Enums.{value_named}

-- a row with this name and this text, both in ASCII
abbrev pub pair : String → String → List ℕ × List ℕ
pair name text = (codes name, codes text)

-- the text in the first row with exactly this name, or nothing
abbrev pub text_named : List (List ℕ × List ℕ) → List ℕ → List ℕ
text_named rows name = unwrap_or (value_named rows name) []

-- two borrowed texts
abbrev pub pair_of : Bor (List ℕ) × Bor (List ℕ) → List ℕ × List ℕ
pair_of texts = (texts.0.now, texts.1.now)

-- the rows of a table of borrowed texts
abbrev pub text_rows : List (Bor (List ℕ) × Bor (List ℕ)) → List (List ℕ × List ℕ)
text_rows = map pair_of

-- a row with this name and two borrowed texts
abbrev pub named_pair_of : Bor (List ℕ) × Bor (List ℕ) × Bor (List ℕ) → List ℕ × (List ℕ × List ℕ)
named_pair_of row = (row.0.now, (row.1.now, row.2.now))
