-- Machinery: words of private contracts.
-- Relates the tables of types and variables in the code to the tables of the definition.
use Rattle.std.specs.Prelude.{ℕ, Bool, List, [], ◌∷◌, Option, Some, None, if◌then◌else◌, ◌||◌, bytes_eq, map}
use Rattle.std.specs.List.{list_any}
use denote.Ref.{Bor}
use Rattle.bib_csl.specs.declared.variables.Form.{Form}
use Rattle.bib_csl.specs.declared.item_types.ItemType.{ItemType}
use Rattle.bib_csl.specs.declared.variables.Variable.{Variable}
use Rattle.bib_csl.specs.Tables.{ItemTypeRow, VariableRow}

-- a row of the code: a type, its name, other types that are read as it, the type of its entry, and the types that `EntryType` lacks
abbrev pub CodeType : Type 0
CodeType = ItemType × Bor (List ℕ) × Bor (List (Bor (List ℕ))) × Bor (List ℕ) × Bor (List (Bor (List ℕ)))

-- the row of the definition that a row of the code means
abbrev pub type_row_meaning : CodeType → ItemTypeRow
type_row_meaning row = record {
  name = row.1.now;
  others = map (λ other. other.now) row.2.now;
  entry_type = row.3.now;
  own = map (λ own. own.now) row.4.now;
}

-- whether the type of a row has this name, or a type with this name is read as it
abbrev pub is_of_type : List ℕ → CodeType → Bool
is_of_type name row = bytes_eq row.1.now name || list_any (λ other. bytes_eq other.now name) row.2.now

-- whether an entry of the type with this name, which `EntryType` lacks, becomes an item of the type of a row
abbrev pub is_of_own_type : List ℕ → CodeType → Bool
is_of_own_type name row = list_any (λ own. bytes_eq own.now name) row.4.now

-- the type of the first row that passes a test, or `None`
abbrev pub first_type : (CodeType → Bool) → List CodeType → Option ItemType
first_type test [] = None
first_type test (row ∷ rows) = if test row then Some row.0 else first_type test rows

-- a row of the code: a variable, its name, the form of its value, and its field
abbrev pub CodeVariable : Type 0
CodeVariable = Variable × Bor (List ℕ) × Form × Bor (List ℕ)

-- the row of the definition that a row of the code means
abbrev pub variable_row_meaning : CodeVariable → VariableRow
variable_row_meaning row = record { name = row.1.now; form = row.2; field = row.3.now }

-- the variable of the first row with exactly this name, or `None`
abbrev pub first_variable : List ℕ → List CodeVariable → Option Variable
first_variable name [] = None
first_variable name (row ∷ rows) = if bytes_eq row.1.now name then Some row.0 else first_variable name rows
