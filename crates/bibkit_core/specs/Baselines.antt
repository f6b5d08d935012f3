-- Meaning: words of public contracts.
-- The texts of the findings that an earlier run printed in lines. These findings are accepted.
use Rattle.std.specs.Prelude.{ℕ, List, codes, option_to_list}
use Rattle.std.specs.List.{flat_map}
use Rattle.std.specs.Str.Lines.{lines}
use Rattle.bib_queries.specs.Elements.{text_after_part}

-- the text of a line such as FILE:LINE:COLUMN: TEXT: it begins after the first colon with a space after it. A line without one has no text
abbrev pub texts_of_line : List ℕ → List (List ℕ)
texts_of_line line = option_to_list (text_after_part (codes ": ") line)

-- the texts of the lines of an output
abbrev pub accepted_texts : List ℕ → List (List ℕ)
accepted_texts output = flat_map texts_of_line (lines output)
