-- Meaning: words of public contracts.
-- Texts without the names of LaTeX commands. The parser keeps a command that it doesn't know: a backslash, the name, and the argument in
-- braces, or a space if there is no argument. As in TeX, the ASCII letters after a backslash are the name of a command, and a space after
-- them isn't printed.
use Rattle.std.specs.Prelude.{ℕ, ◌==◌, ◌&&◌, ◌||◌, Bool, true, false, not, if◌then◌else◌, List, [], ◌∷◌, ◌++◌, codes, drop, eqb, length, take}
use Rattle.std.specs.Char.{is_ascii_alphabetic, is_ascii_uppercase}
use Rattle.std.specs.List.{flat_map, list_any, prefix_len, slice_split, starts_with}
use Rattle.bib_text.specs.Characters as char
use Rattle.bib_text.specs.declared.spanned.Spanned.{Spanned}
use Rattle.bib_chunks.specs.Values.{Value, text}
use Rattle.bib_chunks.specs.declared.chunk.Chunk.{Chunk}
use Rattle.bib_chunks.specs.declared.chunk.Chunk.TheVariants.{Normal, Verbatim, Math}

-- whether an argument follows the name of a command; empty braces only end the name
abbrev pub has_argument : List ℕ → Bool
has_argument rest = starts_with eqb rest (codes "{") && not (starts_with eqb rest (codes "{}"))

-- whether the name of a command counts as text: no argument follows it, and it is in math or has a capital, as in `\BibTeX`
abbrev pub is_name_shown : Bool → List ℕ → List ℕ → Bool
is_name_shown is_math name rest = (is_math || list_any is_ascii_uppercase name) && not (has_argument rest)

-- a text without the space at its start, if there is one
abbrev pub without_space : List ℕ → List ℕ
without_space [] = []
without_space (c ∷ rest) = if c == char.space then rest else c ∷ rest

-- the text that follows the name of a command, without the space that ends the name; a name without letters isn't ended by a space
abbrev pub after_name : List ℕ → List ℕ → List ℕ
after_name name rest = if length name == 0 then rest else without_space rest

-- the text that follows a name, without the space that ends the name, and with the name before it if the name counts as text
abbrev pub shown_command : Bool → List ℕ → List ℕ → List ℕ
shown_command is_math name rest = (if is_name_shown is_math name rest then name else []) ++ after_name name rest

-- the number of bytes of the name with which a text begins
abbrev pub name_len : List ℕ → ℕ
name_len command = prefix_len is_ascii_alphabetic command

-- a text that follows a backslash, without the space that ends the name at its start, and without the name unless it counts as text
abbrev pub without_name : Bool → List ℕ → List ℕ
without_name is_math command = shown_command is_math (take (name_len command) command) (drop (name_len command) command)

-- the parts of a text between its backslashes, joined. The first part follows no backslash, so it is unchanged. The others are changed
-- by `without_name`
abbrev pub joined_commands : Bool → List (List ℕ) → List ℕ
joined_commands is_math [] = []
joined_commands is_math (first ∷ commands) = first ++ flat_map (without_name is_math) commands

-- A text without its backslashes, without the names of commands that don't count as text, and without the spaces that end names. For
-- example, `\textsc{Foo} bar` becomes `{Foo} bar`, and `The \BibTeX{} book` becomes `The BibTeX{} book`.
abbrev pub without_names : Bool → List ℕ → List ℕ
without_names is_math text = joined_commands is_math (slice_split (λ b. b == char.backslash) text)

-- whether a chunk is math
abbrev pub is_math : Chunk → Bool
is_math (Normal whole) = false
is_math (Verbatim whole) = false
is_math (Math whole) = true

-- the formatted text of a chunk without the names of commands that don't count as text
abbrev pub chunk_text : Spanned Chunk → List ℕ
chunk_text c = without_names (is_math c.v) (text (c ∷ []))

-- the formatted texts of chunks, one after another, without the names of commands that don't count as text
abbrev pub text_in_key : Value → List ℕ
text_in_key chunks = flat_map chunk_text chunks
