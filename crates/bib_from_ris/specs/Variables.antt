-- Meaning: words of public contracts.
-- The lines of a record with their variables.
use Rattle.std.specs.Prelude.{ℕ, Bool, ◌==◌, ◌&&◌, if◌then◌else◌, List, [], ◌∷◌, length, codes, bytes_eq, Option, Some, None}
use Rattle.std.specs.List.{flat_map, list_any}
use Rattle.std.specs.Option.{option_or}
use Rattle.bib_from_ris.specs.Tags.{is_preferred, variable_of}
use Rattle.bib_from_ris.specs.declared.lines.RisLine.{RisLine}
use Rattle.bib_from_ris.specs.declared.variables.VariableLine.{VariableLine}

-- a line with its variable, or nothing if its value is empty
abbrev pub line_and_variable : List ℕ → Bool → RisLine → List VariableLine
line_and_variable kind has_editors line =
    if length line.value == 0 then []
    else record {
      variable = variable_of kind has_editors line;
      tag = line.tag;
      value = line.value;
      is_preferred = is_preferred kind line.tag;
    } ∷ []

-- whether a line has the tag ED
abbrev pub is_editor_line : RisLine → Bool
is_editor_line line = bytes_eq line.tag (codes "ED")

-- the lines of a record of this type that have a value, each with its variable
unfoldable pub variable_lines : List ℕ → List RisLine → List VariableLine
variable_lines kind lines = flat_map (line_and_variable kind (list_any is_editor_line lines)) lines

-- the text of the first preferred line of a variable
abbrev pub preferred_text : List ℕ → List VariableLine → Option (List ℕ)
preferred_text name [] = None
preferred_text name (line ∷ rest) =
    if bytes_eq line.variable name && line.is_preferred then Some line.value else preferred_text name rest

-- the text of the first line of a variable
abbrev pub any_text : List ℕ → List VariableLine → Option (List ℕ)
any_text name [] = None
any_text name (line ∷ rest) = if bytes_eq line.variable name then Some line.value else any_text name rest

-- the text of a variable: that of its first preferred line, or else of its first line
unfoldable pub variable_text : List ℕ → List VariableLine → Option (List ℕ)
variable_text name lines = option_or (preferred_text name lines) (any_text name lines)
