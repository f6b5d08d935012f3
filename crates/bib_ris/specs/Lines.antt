-- Meaning: words of public contracts.
-- Lines of RIS: a tag, two spaces, a hyphen and a space, and a text.
use Rattle.std.specs.Prelude.{ℕ, ◌==◌, ◌||◌, List, [], ◌++◌, length, map, codes, encode_utf8_all, if◌then◌else◌}
use Rattle.std.specs.List.{flat_map}
use Rattle.std.specs.Str.{chars}
use Rattle.bib_chunks.specs.Formatted.{is_break}
use Rattle.bib_csl.specs.Markup.{no_break_space}
use Rattle.bib_text.specs.Characters as char

-- a character, or a plain space for a line feed, a carriage return or a no-break space
abbrev pub on_line : ℕ → ℕ
on_line c = if is_break c || c == no_break_space then char.space else c

-- a text on one line
abbrev pub one_line : List ℕ → List ℕ
one_line text = encode_utf8_all (map on_line (chars text))

-- a line with this tag and a text
abbrev pub ris_line : List ℕ → List ℕ → List ℕ
ris_line tag text = tag ++ (codes "  - " ++ (one_line text ++ codes "\n"))

-- a line with this tag for each text
abbrev pub ris_lines : List ℕ → List (List ℕ) → List ℕ
ris_lines tag texts = flat_map (ris_line tag) texts

-- a line with this tag and a text, unless the text is empty
abbrev pub given_line : List ℕ → List ℕ → List ℕ
given_line tag text = if length text == 0 then [] else ris_line tag text
