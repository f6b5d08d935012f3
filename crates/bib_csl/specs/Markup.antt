-- Meaning: words of public contracts.
-- Texts with the LaTeX commands that the parser leaves in them replaced: some by HTML tags, if these are requested. An unknown command
-- without an argument is kept. A text is a list of its characters, and the output is a list of bytes.
use Rattle.std.specs.Prelude.{ℕ, Bool, false, not, nat_lt, ◌==◌, ◌&&◌, ◌||◌, if◌then◌else◌, List, [], ◌∷◌, ◌++◌, length, codes, encode_utf8, encode_utf8_all, Option, Some, None, bytes_eq}
use Rattle.std.specs.Char.{is_ascii_alphabetic}
use Rattle.std.specs.List.{list_any}
use Prim.Native.String.{String}
use Rattle.std.specs.Option.{option_map, option_or, unwrap_or}
use Rattle.bib_text.specs.Enums.{value_named, words}
use Rattle.bib_text.specs.Characters as char
use Rattle.bib_csl.specs.Named.{pair}

-- the no-break space
abbrev pub no_break_space : ℕ
no_break_space = 160

-- the output for a character: a no-break space for a tilde, as in TeX, otherwise the character itself
unfoldable pub untie : ℕ → List ℕ
untie c = if c == char.tilde then encode_utf8 no_break_space else encode_utf8 c

-- signs: the name of the command and the text
abbrev pub sign_commands : List (List ℕ × List ℕ)
sign_commands =
    pair "hyphen" "-" ∷
    pair "slash" "/" ∷
    pair "adddot" "." ∷
    (codes "ldots", encode_utf8_all (codes "…")) ∷
    (codes "dots", encode_utf8_all (codes "…")) ∷
    (codes "textellipsis", encode_utf8_all (codes "…")) ∷
    pair "quad" " " ∷
    pair "TeX" "TeX" ∷
    pair "LaTeX" "LaTeX" ∷
    (codes "LaTeXe", encode_utf8_all (codes "LaTeX2ε")) ∷
    pair "BibTeX" "BibTeX" ∷
    pair "MF" "METAFONT" ∷
    []

-- the output for a command that is a sign, whether it has an argument or not; `None` for other commands
unfoldable pub sign_named : List ℕ → Option (List ℕ)
sign_named = value_named sign_commands

-- whether a command is left out: `\relax`, or one of these that change the font up to the end of the group
unfoldable pub is_silent : List ℕ → Bool
is_silent name =
    list_any (bytes_eq name) (words (codes "bf bfseries em it itshape relax rm rmfamily sc scshape sf sffamily sl slshape tt ttfamily"))

-- the output for a command without its argument: a sign, or nothing for a silent command; `None` for other commands
unfoldable pub said_alone : List ℕ → Option (List ℕ)
said_alone name = option_or (sign_named name) (if is_silent name then Some [] else None)

-- a row with this name of a command, and its opening and closing tags, all in ASCII
abbrev pub tag_pair : String → String → String → List ℕ × (List ℕ × List ℕ)
tag_pair name before after = (codes name, (codes before, codes after))

-- commands with tags: the name, the opening tag and the closing tag
abbrev pub tags : List (List ℕ × (List ℕ × List ℕ))
tags =
    tag_pair "emph" "<i>" "</i>" ∷
    tag_pair "textit" "<i>" "</i>" ∷
    tag_pair "mkbibemph" "<i>" "</i>" ∷
    tag_pair "textbf" "<b>" "</b>" ∷
    tag_pair "textsuperscript" "<sup>" "</sup>" ∷
    tag_pair "textsubscript" "<sub>" "</sub>" ∷
    tag_pair "textsc" "<span style=\"font-variant:small-caps;\">" "</span>" ∷
    []

-- the opening tag for a command with this name; `None` for other commands
unfoldable pub tag_before : List ℕ → Option (List ℕ)
tag_before name = option_map (λ pair. pair.0) (value_named tags name)

-- the closing tag for a command with this name; `None` for other commands
unfoldable pub tag_after : List ℕ → Option (List ℕ)
tag_after name = option_map (λ pair. pair.1) (value_named tags name)

-- whether a command puts its argument in quotation marks
unfoldable pub quotes_argument : List ℕ → Bool
quotes_argument name = bytes_eq name (codes "enquote") || bytes_eq name (codes "mkbibquote")

-- the quotation mark before the argument of a command with this name, or its opening tag if `has_tags`; `None` for other commands
unfoldable pub mark_opening : Bool → List ℕ → Option (List ℕ)
mark_opening has_tags name =
    if quotes_argument name then Some (encode_utf8_all (codes "“")) else if has_tags then tag_before name else None

-- the quotation mark after the argument of a command with this name, or its closing tag if `has_tags`; `None` for other commands
unfoldable pub mark_closing : Bool → List ℕ → Option (List ℕ)
mark_closing has_tags name =
    if quotes_argument name then Some (encode_utf8_all (codes "”")) else if has_tags then tag_after name else None

-- the output for a command and the opening brace of its argument: a tag, a quotation mark or a sign, and nothing for any other command,
-- whose argument is kept; `None` for a backslash without a name
unfoldable pub opening_tag : Bool → List ℕ → Option (List ℕ)
opening_tag has_tags name =
    if length name == 0 then None else Some (unwrap_or (mark_opening has_tags name) (unwrap_or (sign_named name) []))

-- the output for the closing brace of the argument of a command; `None` for a brace without a command
unfoldable pub closing_tag : Bool → List ℕ → Option (List ℕ)
closing_tag has_tags name = if length name == 0 then None else Some (unwrap_or (mark_closing has_tags name) [])

-- a command as it is: its backslash and its name
unfoldable pub as_command : List ℕ → List ℕ
as_command name = codes "\\" ++ name

-- ---- a backslash before a space

-- The parser returns it as a backslash and two spaces. A backslash of the text before a space is followed by one.

-- whether a name is the space after a backslash
abbrev pub is_space_name : List ℕ → Bool
is_space_name name = bytes_eq name (codes " ")

-- ---- accents

-- whether a character is a combining accent: one of U+0300 to U+036F
unfoldable pub is_accent : ℕ → Bool
is_accent c = not (nat_lt c 768) && nat_lt c 880

-- whether a name is a combining accent: the parser returns `\'\i` as a backslash, the accent and the letter. The bytes of an accent begin
-- with 204 or 205.
abbrev pub is_accent_name : List ℕ → Bool
is_accent_name [] = false
is_accent_name (b ∷ rest) = b == 204 || b == 205

-- ---- the state

-- The state before a character: the name of the command of each open brace, the innermost first, empty for a brace without a command; and
-- the start of the name of a command, if one is being read.

-- whether a character after a backslash begins a name: an ASCII letter, a space or an accent
unfoldable pub begins_command : ℕ → Bool
begins_command c = is_ascii_alphabetic c || (c == char.space || is_accent c)

-- whether a character belongs to the name of a command that is being read
unfoldable pub goes_on : List ℕ → ℕ → Bool
goes_on name c =
    if length name == 0 then begins_command c
    else not (is_space_name name || is_accent_name name) && is_ascii_alphabetic c

-- whether a character is the opening brace of the argument of the command before it
unfoldable pub opens_argument : List ℕ → ℕ → Bool
opens_argument name c = c == char.open_brace && not (is_space_name name)

-- the output for a command and the opening brace after it: its tag if it has one, otherwise the command and the brace as they are
abbrev pub begun_by : Option (List ℕ) → List ℕ → List ℕ
begun_by None name = as_command name ++ codes "{"
begun_by (Some tag) name = tag

-- the output for a command and the opening brace after it
unfoldable pub begun : Bool → List ℕ → List ℕ
begun has_tags name = begun_by (opening_tag has_tags name) name

-- the output for a closing brace: its tag if it has one, otherwise the brace
abbrev pub ended_by : Option (List ℕ) → List ℕ
ended_by None = codes "}"
ended_by (Some tag) = tag

-- the output for the closing brace of the innermost open brace
unfoldable pub ended : Bool → List (List ℕ) → List ℕ
ended has_tags [] = codes "}"
ended has_tags (name ∷ names) = ended_by (closing_tag has_tags name)

-- the braces around the innermost one
abbrev pub around : List (List ℕ) → List (List ℕ)
around [] = []
around (name ∷ names) = names

-- whether the innermost open brace is that of `\url`, in which a tilde isn't a no-break space
unfoldable pub is_address : List (List ℕ) → Bool
is_address [] = false
is_address (name ∷ names) = bytes_eq name (codes "url")

-- the output for a character: a tilde is a no-break space, unless the innermost open brace is that of `\url`
unfoldable pub shown_in : List (List ℕ) → ℕ → List ℕ
shown_in names c = if is_address names then encode_utf8 c else untie c

-- the output for a character outside of the names of commands
unfoldable pub said_plainly : Bool → List (List ℕ) → ℕ → List ℕ
said_plainly has_tags names c =
    if c == char.backslash then [] else if c == char.close_brace then ended has_tags names else shown_in names c

-- the open braces after a character outside of the names of commands
unfoldable pub open_plainly : List (List ℕ) → ℕ → List (List ℕ)
open_plainly names c = if c == char.open_brace then [] ∷ names else if c == char.close_brace then around names else names

-- the output for a character after a command without an argument: nothing for the space that ends the command
unfoldable pub after_sign : Bool → List (List ℕ) → ℕ → List ℕ
after_sign has_tags names c = if c == char.space then [] else said_plainly has_tags names c

-- the output for a command that has none of its own, and the character after it: the command as it is, and the output for the character
unfoldable pub said_as_it_is : Bool → List (List ℕ) → List ℕ → ℕ → List ℕ
said_as_it_is has_tags names name c = as_command name ++ said_plainly has_tags names c

-- the output for a command without a brace and the character after it; the first argument is the output of the command, if it has one
abbrev pub said_with : Option (List ℕ) → Bool → List (List ℕ) → List ℕ → ℕ → List ℕ
said_with None has_tags names name c = said_as_it_is has_tags names name c
said_with (Some sign) has_tags names name c = sign ++ after_sign has_tags names c

-- the output for a command without a brace and the character after it
unfoldable pub said_after : Bool → List (List ℕ) → List ℕ → ℕ → List ℕ
said_after has_tags names name c = said_with (said_alone name) has_tags names name c

-- the output for a backslash, a space and the character after them: one space if that is another space. Otherwise, the backslash and the
-- space are kept, and the output for the character follows.
unfoldable pub said_after_space : Bool → List (List ℕ) → ℕ → List ℕ
said_after_space has_tags names c = if c == char.space then codes " " else said_as_it_is has_tags names (codes " ") c

-- the output for a name that ends before a character other than the brace of its argument, and for that character
unfoldable pub said_at_end : Bool → List (List ℕ) → List ℕ → ℕ → List ℕ
said_at_end has_tags names name c =
    if is_space_name name then said_after_space has_tags names c
    else if is_accent_name name && c == char.letter_i then encode_utf8 c ++ name
    else said_after has_tags names name c

-- the empty name after a backslash, which begins a command
unfoldable pub begins_name : ℕ → Option (List ℕ)
begins_name c = if c == char.backslash then Some [] else None

-- the output for a character, and for the command before it if the character ends its name
unfoldable pub said : Bool → List (List ℕ) → Option (List ℕ) → ℕ → List ℕ
said has_tags names None c = said_plainly has_tags names c
said has_tags names (Some name) c =
    if goes_on name c then []
    else if opens_argument name c then begun has_tags name
    else said_at_end has_tags names name c

-- the open braces after a character
unfoldable pub open_after : List (List ℕ) → Option (List ℕ) → ℕ → List (List ℕ)
open_after names None c = open_plainly names c
open_after names (Some name) c =
    if goes_on name c then names
    else if opens_argument name c then name ∷ names
    else open_plainly names c

-- the start of the name of a command that is being read after a character
unfoldable pub name_after : Option (List ℕ) → ℕ → Option (List ℕ)
name_after None c = begins_name c
name_after (Some name) c =
    if goes_on name c then Some (name ++ encode_utf8 c)
    else if opens_argument name c then None
    else begins_name c

-- the closing tags of all open braces
abbrev pub all_ended : Bool → List (List ℕ) → List ℕ
all_ended has_tags [] = []
all_ended has_tags (name ∷ names) = unwrap_or (closing_tag has_tags name) [] ++ all_ended has_tags names

-- the output at the end: that for the command that is being read, and the closing tags of all open braces
unfoldable pub said_last : Bool → List (List ℕ) → Option (List ℕ) → List ℕ
said_last has_tags names None = all_ended has_tags names
said_last has_tags names (Some name) = unwrap_or (said_alone name) (as_command name) ++ all_ended has_tags names

-- the output for the rest of a text
abbrev pub marked_from : Bool → List (List ℕ) → Option (List ℕ) → List ℕ → List ℕ
marked_from has_tags names name [] = said_last has_tags names name
marked_from has_tags names name (c ∷ cs) =
    said has_tags names name c ++ marked_from has_tags (open_after names name c) (name_after name c) cs

-- a text with its commands replaced, with HTML tags or without them
unfoldable pub marked_text : Bool → List ℕ → List ℕ
marked_text has_tags text = marked_from has_tags [] None text

-- the output for a character of a name: a space for a tilde, otherwise the character itself. Citation processors look for initials after
-- spaces, and not after no-break spaces.
unfoldable pub loosen : ℕ → List ℕ
loosen c = if c == char.tilde then codes " " else encode_utf8 c

-- a text with spaces for tildes
abbrev pub loosened : List ℕ → List ℕ
loosened [] = []
loosened (c ∷ cs) = loosen c ++ loosened cs
