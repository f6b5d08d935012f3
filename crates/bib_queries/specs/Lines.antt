-- Meaning: words of public contracts.
-- A line of an .aux file: a command and its arguments. BibTeX reads a command only at the start of a line.
use Rattle.std.specs.Prelude.{ℕ, ◌==◌, Bool, if◌then◌else◌, List, [], Option, Some, None, codes, drop, eqb, length, nat_lt}
use Rattle.std.specs.List.{after_first, before_first, ends_with, position_or_len, starts_with}
use Rattle.std.specs.Option.{option_and_then, option_map_or, option_or}
use Rattle.bib_text.specs.Characters as char
use Rattle.bib_queries.specs.Names.{comma_parts}

-- the text after a prefix, or `None` if the text doesn't begin with it
abbrev pub text_after_prefix : List ℕ → List ℕ → Option (List ℕ)
text_after_prefix prefix text = if starts_with eqb text prefix then Some (drop (length prefix) text) else None

-- whether a text contains a closing brace
abbrev pub has_close : List ℕ → Bool
has_close text = nat_lt (position_or_len (λ b. b == char.close_brace) text) (length text)

-- the text before the first closing brace
abbrev pub before_close : List ℕ → List ℕ
before_close text = before_first (λ b. b == char.close_brace) text

-- the text after the first closing brace
abbrev pub after_close : List ℕ → List ℕ
after_close text = after_first (λ b. b == char.close_brace) text

-- the text of an argument up to its closing brace, or `None` without one
abbrev pub argument : List ℕ → Option (List ℕ)
argument text = if has_close text then Some (before_close text) else None

-- the text of the last of one or two arguments; `text` begins after the opening brace of the first
abbrev pub last_argument : List ℕ → Option (List ℕ)
last_argument text =
    if has_close text then option_map_or argument (text_after_prefix (codes "{") (after_close text)) (Some (before_close text))
    else None

-- the text after the command of LaTeX or of BibLaTeX for a citation, at the start of a line, or `None` without one
abbrev pub after_command : List ℕ → Option (List ℕ)
after_command line = option_or (text_after_prefix (codes "\\citation{") line) (text_after_prefix (codes "\\abx@aux@cite{") line)

-- the comma-separated keys that a line cites, or `None` if the line is no complete citation command
abbrev pub aux_list : List ℕ → Option (List ℕ)
aux_list line = option_and_then last_argument (after_command line)

-- the keys that a line cites
abbrev pub aux_cited : List ℕ → List (List ℕ)
aux_cited line = option_map_or comma_parts (aux_list line) []

-- a name, or `None` if it doesn't end with `.aux`
abbrev pub aux_name : List ℕ → Option (List ℕ)
aux_name name = if ends_with eqb name (codes ".aux") then Some name else None

-- the name of the .aux file that a line inputs, or `None` if it inputs none; LaTeX writes such a line for `\include`
abbrev pub aux_input : List ℕ → Option (List ℕ)
aux_input line = option_and_then aux_name (option_and_then argument (text_after_prefix (codes "\\@input{") line))

-- the comma-separated names of .bib files in a line, or `None` if the line is no complete `\bibdata`
abbrev pub aux_data : List ℕ → Option (List ℕ)
aux_data line = option_and_then argument (text_after_prefix (codes "\\bibdata{") line)
