-- Meaning: words of public contracts.
-- The contents of a field: how the text of a piece is cut into units, and the meaning of each unit. Contents are LaTeX
-- source, as the Rust crate `biblatex` parses it, except for an accent on an accented letter. A text is a list of its characters.
use Rattle.std.specs.Prelude.{◌≡◌, ◌≤◌, ℕ, zero, suc, ◌-◌, ◌/◌, ◌%◌, ◌^◌, min, Bool, true, false, not, ◌&&◌, ◌||◌, ◌==◌, nat_lt, ◌⊎◌, if◌then◌else◌, List, [], ◌∷◌, ◌++◌, map, replicate, Option, None, Some}
use Rattle.std.specs.Char.{is_whitespace, is_control}
use Rattle.std.specs.List.{list_any, list_all}
use Rattle.bib_chunks.specs.Formatted.{formatted_atoms}
use Rattle.bib_chunks.specs.Styled.{Atom}
use Rattle.bib_chunks.specs.Written.{is_grouping, is_reserved}
use Rattle.bib_syntax.specs.Characters.{is_id_continue}
use Rattle.bib_contents.specs.Commands.{command_text}
use Rattle.bib_syntax.specs.Errors.{out_of_memory}
use Rattle.bib_syntax.specs.declared.raw.Token.TheVariants.{ClosingBrace}
use Rattle.bib_syntax.specs.declared.raw.ParseError.{ParseError}
use Rattle.bib_syntax.specs.declared.raw.ParseErrorKind.{ParseErrorKind}
use Rattle.bib_syntax.specs.declared.raw.ParseErrorKind.TheVariants.{UnexpectedEof, Unexpected}
use Rattle.bib_text.specs.Characters as char

-- Whether a backslash escapes a character. In every field, it escapes grouping characters, and the colon if the text is parsed,
-- since Zotero writes a backslash before it. Outside verbatim fields, it also escapes reserved ones, the tilde and the
-- circumflex.
unfoldable pub is_escapable : ℕ → Bool → Bool → Bool
is_escapable c is_verbatim is_read =
    is_grouping c || (not is_verbatim && (is_reserved c || c == char.tilde || c == char.circumflex))
    || (is_read && c == char.colon)

-- whether a backslash and a character are parsed as the character: those escapable in parsed text, except the tilde and the
-- circumflex, which name accents
unfoldable pub is_escaped : Bool → ℕ → Bool
is_escaped is_verbatim c = is_escapable c is_verbatim true && not (c == char.tilde || c == char.circumflex)

-- whether a character is white space
unfoldable pub is_space : ℕ → Bool
is_space c = is_whitespace c

-- white space and control characters, which begin no command
unfoldable pub is_blank : ℕ → Bool
is_blank c = is_whitespace c || is_control c

-- the characters that may occur in a command's name after the first one
unfoldable pub is_name_character : ℕ → Bool
is_name_character c = is_id_continue c

-- the signs that name an accent: " ' ^ ~ = . U+00B4 U+0060
unfoldable pub is_mark : ℕ → Bool
is_mark c =
    c == char.quote || c == char.apostrophe || c == char.circumflex || c == char.tilde || c == char.equals
    || c == char.point || c == char.acute || c == char.grave

-- the letters that name an accent: b c d H k r u v
unfoldable pub is_accent_letter : ℕ → Bool
is_accent_letter c =
    c == char.letter_b || c == char.letter_c || c == char.letter_d || c == char.upper_h || c == char.letter_k
    || c == char.letter_r || c == char.letter_u || c == char.letter_v

-- the characters that are a command's whole name if they begin it: the signs that name an accent, and the hyphen
unfoldable pub is_sign : ℕ → Bool
is_sign c = is_mark c || c == char.hyphen

-- a character that is a unit by itself: no hyphen, white space, brace or backslash, and outside verbatim fields no
-- dollar sign
unfoldable pub is_ordinary : Bool → ℕ → Bool
is_ordinary is_verbatim c = not (c == char.hyphen || is_space c || is_grouping c || (not is_verbatim && c == char.dollar))

-- whether a text begins with a character that passes the test
abbrev pub begins : (ℕ → Bool) → List ℕ → Bool
begins test [] = false
begins test (c ∷ cs) = test c

-- whether a text is empty
abbrev pub is_empty : List ℕ → Bool
is_empty [] = true
is_empty (c ∷ cs) = false

-- whether the braces of a text balance if `depth` braces are open before it; a brace after a backslash counts too
abbrev pub balances : ℕ → List ℕ → Bool
balances depth [] = depth == 0
balances depth (c ∷ cs) =
    if c == char.open_brace then balances (suc depth) cs
    else if c == char.close_brace then (nat_lt 0 depth && balances (depth - 1) cs)
    else balances depth cs

-- the argument of a command: none, the empty one at the end of a text, the next character, or the text in braces
pub data Argument : Type 0 where
  without : Argument
  empty : Argument
  single : ℕ → Argument
  braced : List ℕ → Argument

-- a unit of contents
pub data ContentUnit : Type 0 where
  hyphens : ℕ → ContentUnit  -- a run of hyphens, counted
  spaces : List ℕ → ContentUnit  -- white space
  opening : ContentUnit  -- `{`
  closing : ContentUnit  -- `}`
  escaped : ℕ → ContentUnit  -- a backslash and a character that it escapes
  backslash : ContentUnit  -- a single backslash
  copied : ℕ → ContentUnit  -- a backslash before this white space or control character, which isn't consumed
  formula : List ℕ → ContentUnit  -- `$`, a text, `$`
  command : List ℕ → List ℕ → Argument → ContentUnit  -- a backslash, a name, white space, an argument
  other : ℕ → ContentUnit  -- any other character

-- how an argument is spelt
abbrev pub argument_spelling : Argument → List ℕ
argument_spelling Argument.without = []
argument_spelling Argument.empty = []
argument_spelling (Argument.single c) = c ∷ []
argument_spelling (Argument.braced text) = char.open_brace ∷ (text ++ char.close_brace ∷ [])

-- how a unit is spelt
abbrev pub unit_spelling : ContentUnit → List ℕ
unit_spelling (ContentUnit.hyphens n) = replicate n char.hyphen
unit_spelling (ContentUnit.spaces cs) = cs
unit_spelling ContentUnit.opening = char.open_brace ∷ []
unit_spelling ContentUnit.closing = char.close_brace ∷ []
unit_spelling (ContentUnit.escaped c) = char.backslash ∷ c ∷ []
unit_spelling ContentUnit.backslash = char.backslash ∷ []
unit_spelling (ContentUnit.copied c) = char.backslash ∷ []
unit_spelling (ContentUnit.formula text) = char.dollar ∷ (text ++ char.dollar ∷ [])
unit_spelling (ContentUnit.command name space argument) = char.backslash ∷ (name ++ (space ++ argument_spelling argument))
unit_spelling (ContentUnit.other c) = c ∷ []

-- The name of a command: a sign, or a first character and identifier characters after it. The first character isn't white
-- space, a control character or escaped by a backslash.
abbrev pub is_name : List ℕ → Bool
is_name [] = false
is_name (c ∷ cs) =
    not (is_escaped false c) && not (is_blank c) && (if is_sign c then is_empty cs else list_all is_name_character cs)

-- whether a name can end before a text: a sign always, another name if no identifier character follows
abbrev pub is_whole_name : List ℕ → List ℕ → Bool
is_whole_name name rest = begins is_sign name || not (begins is_name_character rest)

-- whether a command takes the next character as its argument: an accent named by a sign, or by a letter with white space
-- after it
abbrev pub takes_next : List ℕ → List ℕ → Bool
takes_next [] space = false
takes_next (c ∷ []) space = is_mark c || (is_accent_letter c && not (is_empty space))
takes_next (c ∷ d ∷ cs) space = false

-- whether a command has this argument before the rest of a text. The first flag says whether it takes the next
-- character, the second one whether white space comes after its name. A brace right after the name begins an argument
-- in braces. A command that takes the next character takes any except an opening brace.
abbrev pub is_argument : Bool → Bool → Argument → List ℕ → Bool
is_argument takes spaced Argument.without rest = if begins (λ c. c == char.open_brace) rest then spaced else not takes
is_argument takes spaced Argument.empty rest = takes && is_empty rest
is_argument takes spaced (Argument.single c) rest = takes && not (c == char.open_brace)
is_argument takes spaced (Argument.braced text) rest = not spaced && balances 0 text

-- whether a unit can come before the rest of a text; the flag says whether the field is a verbatim one. Runs, names and
-- the white space after a name are as long as possible.
abbrev pub fits : Bool → ContentUnit → List ℕ → Bool
fits is_verbatim (ContentUnit.hyphens n) rest = nat_lt 0 n && not (begins (λ c. c == char.hyphen) rest)
fits is_verbatim (ContentUnit.spaces cs) rest = not (is_empty cs) && list_all is_space cs && not (begins is_space rest)
fits is_verbatim ContentUnit.opening rest = true
fits is_verbatim ContentUnit.closing rest = true
fits is_verbatim (ContentUnit.escaped c) rest = is_escaped is_verbatim c
fits is_verbatim ContentUnit.backslash rest = is_verbatim && not (begins (is_escaped true) rest)
fits is_verbatim (ContentUnit.copied c) rest = not is_verbatim && is_blank c && begins (λ d. d == c) rest
fits is_verbatim (ContentUnit.formula text) rest = not is_verbatim && not (list_any (λ c. c == char.dollar) text)
fits is_verbatim (ContentUnit.command name space argument) rest =
    not is_verbatim && is_name name && is_whole_name name (space ++ (argument_spelling argument ++ rest))
    && list_all is_space space && not (begins is_space (argument_spelling argument ++ rest))
    && is_argument (takes_next name space) (not (is_empty space)) argument rest
fits is_verbatim (ContentUnit.other c) rest = is_ordinary is_verbatim c

-- a unit is the first of a text, and `rest` is the text after it
pub record IsNext (is_verbatim : Bool) (u : ContentUnit) (text rest : List ℕ) : Type 0 where
  pub fits : fits is_verbatim u rest ≡ true
  pub spells : text ≡ unit_spelling u ++ rest

-- the text of an argument, if there is one; the atoms are those of an argument in braces
abbrev pub argument_text : Argument → List Atom → Option (List ℕ)
argument_text Argument.without inner = None
argument_text Argument.empty inner = Some []
argument_text (Argument.single c) inner = Some (c ∷ [])
argument_text (Argument.braced text) inner = Some (formatted_atoms false inner)

-- `n` hyphens as dashes: an em dash for each three, then an en dash for two or a hyphen for one
abbrev pub dashes : ℕ → List ℕ
dashes n = replicate (n / 3) char.em_dash ++ (if n % 3 == 2 then char.en_dash ∷ [] else if n % 3 == 1 then char.hyphen ∷ [] else [])

-- the text of a unit other than math; the atoms are those of an argument in braces
abbrev pub unit_text : ContentUnit → List Atom → List ℕ
unit_text (ContentUnit.hyphens n) inner = dashes n
unit_text (ContentUnit.spaces cs) inner = char.space ∷ []
unit_text ContentUnit.opening inner = []
unit_text ContentUnit.closing inner = []
unit_text (ContentUnit.escaped c) inner = c ∷ []
unit_text ContentUnit.backslash inner = char.backslash ∷ []
unit_text (ContentUnit.copied c) inner = char.backslash ∷ c ∷ []
unit_text (ContentUnit.formula text) inner = []
unit_text (ContentUnit.command name space argument) inner = command_text name (argument_text argument inner)
unit_text (ContentUnit.other c) inner = c ∷ []

-- a character as an atom: normal if no brace is open, otherwise verbatim
abbrev pub character : ℕ → ℕ → Atom
character zero c = Atom.normal c
character (suc depth) c = Atom.verbatim c

-- the atoms of a unit; `depth` is the number of braces open before it, and `inner` are the atoms of its argument in braces
abbrev pub meaning : ℕ → ContentUnit → List Atom → List Atom
meaning depth (ContentUnit.formula text) inner = Atom.math text ∷ []
meaning depth u inner = map (character depth) (unit_text u inner)

-- whether a unit may occur with so many braces open: a closing brace requires an open one
abbrev pub is_closable : ℕ → ContentUnit → Bool
is_closable depth ContentUnit.closing = nat_lt 0 depth
is_closable depth u = true

-- the number of braces open after a unit; `depth` is the number before it
abbrev pub depth_after : ℕ → ContentUnit → ℕ
depth_after depth ContentUnit.opening = suc depth
depth_after depth ContentUnit.closing = depth - 1
depth_after depth u = depth

-- the text of a unit's argument in braces, if it has one
abbrev pub inner_text : ContentUnit → Option (List ℕ)
inner_text (ContentUnit.command name space (Argument.braced text)) = Some text
inner_text u = None

-- a text is parsed as these atoms, with so many braces open before it. It consists of units, and their arguments in
-- braces are parsed as contents that aren't verbatim. Braces that are open at the end are ignored.
pub data Reads : Bool → ℕ → List ℕ → List Atom → Type 0 where
  end : {is_verbatim : Bool} {depth : ℕ} → Reads is_verbatim depth [] []
  next : {is_verbatim : Bool} {depth : ℕ} {u : ContentUnit} {text rest : List ℕ} {inner atoms : List Atom}
      → IsNext is_verbatim u text rest → is_closable depth u ≡ true
      → ((argument : List ℕ) → inner_text u ≡ Some argument → Reads false 0 argument inner)
      → Reads is_verbatim (depth_after depth u) rest atoms
      → Reads is_verbatim depth text (meaning depth u inner ++ atoms)

-- the contents of a field are parsed as these atoms
abbrev pub IsContent : Bool → List ℕ → List Atom → Type 0
IsContent is_verbatim text atoms = Reads is_verbatim 0 text atoms

-- the kind of an error of contents: a closing brace that has no opening one, or a text that ends too early
abbrev pub IsUnread : ParseErrorKind → Type 0
IsUnread kind = (kind ≡ UnexpectedEof) ⊎ (kind ≡ Unexpected ClosingBrace)

-- the span of an error doesn't end before it starts, and no part of it is before the first or after the second byte offset
abbrev pub LiesBetween : ℕ → ℕ → ParseError → Type 0
LiesBetween low high e = (low ≤ e.span.start) × (e.span.start ≤ e.span.end) × (e.span.end ≤ high)

-- out of memory, or an error whose span is between two byte offsets, as `LiesBetween` states
abbrev pub StaysBetween : ℕ → ℕ → ParseError → Type 0
StaysBetween low high e = (e ≡ out_of_memory) ⊎ LiesBetween low high e

-- a byte offset, at most the greatest 64-bit number
abbrev pub saturate : ℕ → ℕ
saturate n = min n (2 ^ 64 - 1)
