-- Machinery: words of private contracts.
-- Relates the table of languages in the code to the table of the definition.
use Rattle.std.specs.Prelude.{ℕ, Bool, List, [], ◌∷◌, Option, Some, None, if◌then◌else◌, ◌||◌, bytes_eq, map}
use Rattle.std.specs.List.{list_any}
use denote.Ref.{Bor}
use Rattle.bib_tables.specs.declared.types.lang.Language.{Language}
use Rattle.bib_tables.specs.Language.{LanguageRow}

-- a row of the code: a language, its name, its tag, and its other names
abbrev pub Row : Type 0
Row = Language × Bor (List ℕ) × Bor (List ℕ) × Bor (List (Bor (List ℕ)))

-- the row of the definition that a row of the code means
abbrev pub row_meaning : Row → LanguageRow
row_meaning row = record { name = row.1.now; tag = row.2.now; others = map (λ other. other.now) row.3.now }

-- whether `text` is exactly the name in `row` or one of its other names
abbrev pub is_read_by : Row → List ℕ → Bool
is_read_by row text = bytes_eq row.1.now text || list_any (λ other. bytes_eq other.now text) row.3.now

-- the language of the first row with exactly this name or other name, or `None`
abbrev pub row_named : List Row → List ℕ → Option Language
row_named [] text = None
row_named (row ∷ rows) text = if is_read_by row text then Some row.0 else row_named rows text
