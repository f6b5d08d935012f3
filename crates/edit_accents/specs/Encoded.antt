-- Meaning: words of public contracts.
-- Characters beyond ASCII, and the LaTeX commands for accents and letters that give them. A text is a list of its characters. The marks of
-- accents and the characters of letters are those of `Accents`.
use Rattle.std.specs.Prelude.{◌==◌, ◌&&◌, ◌||◌, not, ℕ, Bool, true, false, if◌then◌else◌, List, [], ◌∷◌, ◌++◌, codes, length, Option, Some, None}
use Rattle.std.specs.Char.{is_ascii_alphabetic}
use Rattle.std.specs.List.{list_any}
use Rattle.std.specs.Option.{option_or}
use Rattle.bib_text.specs.Characters as char
use Rattle.bib_contents.specs.Commands.{accents}
use Rattle.edit_accents.specs.Accents.{is_beyond_ascii, named_letter, only_character, stretch_after}
use Rattle.edit_accents.specs.declared.signs.Stretch.{Stretch}
use Rattle.edit_accents.specs.declared.signs.Stretch.TheVariants.{Text, Accent, Math, Address}
use Rattle.edit_entries.specs.Documents.{in_braces}
use Rattle.unicode_normalization.specs.Forms.{nfd}
use Rattle.unicode_normalization.specs.Lookups.{is_combining_mark}

-- ---- the names of accents and letters

-- the name in a row of accents, if the row is for this mark and the name is one ASCII character
abbrev pub name_in_row : List ℕ × ℕ → ℕ → Option ℕ
name_in_row row mark = if row.1 == mark && not (list_any is_beyond_ascii row.0) then only_character row.0 else None

-- the name of the accent for a mark, in rows of accents
abbrev pub name_in_rows : List (List ℕ × ℕ) → ℕ → Option ℕ
name_in_rows [] mark = None
name_in_rows (row ∷ rows) mark = option_or (name_in_row row mark) (name_in_rows rows mark)

-- the name of the accent for a mark
abbrev pub accent_name : ℕ → Option ℕ
accent_name mark = name_in_rows accents mark

-- whether there is a letter, and it is this character
abbrev pub is_letter : Option ℕ → ℕ → Bool
is_letter None c = false
is_letter (Some d) c = d == c

-- the first of these names that is the name of a letter with this character
abbrev pub name_among : List (List ℕ) → ℕ → Option (List ℕ)
name_among [] c = None
name_among (name ∷ names) c = if is_letter (named_letter name) c then Some name else name_among names c

-- the commands for letters that BibTeX knows, except for that of the dotless j
abbrev pub common_names : List (List ℕ)
common_names =
    codes "aa" ∷ codes "AA" ∷ codes "ae" ∷ codes "AE" ∷ codes "oe" ∷ codes "OE" ∷ codes "o" ∷ codes "O" ∷ codes "l" ∷ codes "L"
    ∷ codes "ss" ∷ codes "i" ∷ []

-- the name of the command for a letter
abbrev pub letter_name : ℕ → Option (List ℕ)
letter_name c = name_among common_names c

-- ---- the command for a character

-- the command with a name, if there is one
abbrev pub command_named : Option (List ℕ) → Option (List ℕ)
command_named None = None
command_named (Some name) = Some (char.backslash ∷ name)

-- the command for a letter
abbrev pub letter_command : ℕ → Option (List ℕ)
letter_command c = command_named (letter_name c)

-- the text of a letter that an accent is put on: an ASCII letter, or the command for a letter
abbrev pub base_text : ℕ → Option (List ℕ)
base_text c = if is_ascii_alphabetic c then Some (c ∷ []) else letter_command c

-- whether a text contains a character
abbrev pub has_character : List ℕ → ℕ → Bool
has_character text c = list_any (λ d. d == c) text

-- whether LaTeX, Biber and pandoc read an accent on a letter as the same character. On an i, only the four accents for which LaTeX drops
-- its dot by itself, the dot below and the ogonek pass. On a j, none does
abbrev pub is_put_on : ℕ → ℕ → Bool
is_put_on name c =
    if has_character (codes "i") c then has_character (codes "`'^\"dk") name
    else not (has_character (codes "j") c)

-- the argument of an accent with a name: in braces if the name is a letter or the argument isn't one character
abbrev pub accent_argument : ℕ → List ℕ → List ℕ
accent_argument name text = if is_ascii_alphabetic name || not (length text == 1) then in_braces text else text

-- an accent with its argument
abbrev pub accent_command : ℕ → List ℕ → List ℕ
accent_command name text = char.backslash ∷ name ∷ accent_argument name text

-- an accent with a letter, if both are there
abbrev pub accent_with : ℕ → Option (List ℕ) → Option (List ℕ)
accent_with name None = None
accent_with name (Some text) = Some (accent_command name text)

-- the command for an accent on a letter, given the name of the accent if there is one
abbrev pub accent_on : Option ℕ → ℕ → Option (List ℕ)
accent_on None c = None
accent_on (Some name) c = if is_put_on name c then accent_with name (base_text c) else None

-- the command for a letter with one mark
abbrev pub accented : List ℕ → Option (List ℕ)
accented (c ∷ mark ∷ []) = accent_on (accent_name mark) c
accented cs = None

-- the command for a character: that for a letter, or else that for an accent on the letter of its canonical decomposition
abbrev pub command_for : ℕ → Option (List ℕ)
command_for c = if is_beyond_ascii c then option_or (letter_command c) (accented (nfd (c ∷ []))) else None

-- ---- a text

-- a command in braces, so that BibTeX takes it as one character, or a character that stays
abbrev pub in_braces_or : Option (List ℕ) → ℕ → List ℕ
in_braces_or None c = c ∷ []
in_braces_or (Some command) c = in_braces command

-- whether characters become commands in a stretch of a text: not as the argument of an accent, in math, in an address or in a key
abbrev pub writes_commands : Stretch → Bool
writes_commands Text = true
writes_commands Accent = false
writes_commands Math = false
writes_commands (Address depth) = false

-- whether a text begins with a combining character, which belongs to the character before it
abbrev pub begins_mark : List ℕ → Bool
begins_mark [] = false
begins_mark (c ∷ cs) = is_combining_mark c

-- the text of a character in a stretch of a text, which the rest of the text follows
abbrev pub character_text : Stretch → ℕ → List ℕ → List ℕ
character_text stretch c rest =
    if writes_commands stretch && not (begins_mark rest) then in_braces_or (command_for c) c else c ∷ []

-- a text with its characters as commands, which begins in a stretch; the flag says whether a backslash escapes its first character
abbrev pub encoded : Stretch → Bool → List ℕ → List ℕ
encoded stretch is_escaped [] = []
encoded stretch true (c ∷ cs) = c ∷ encoded stretch false cs
encoded stretch false (c ∷ cs) = character_text stretch c cs ++ encoded (stretch_after stretch c cs) (c == char.backslash) cs

-- a text with LaTeX commands for accents and letters instead of the characters beyond ASCII that have one and may change
abbrev pub with_commands : List ℕ → List ℕ
with_commands text = encoded Text false text
