-- Meaning: words of public contracts.
-- The grammar of bibliography files: BibTeX's grammar, as the Rust crate `biblatex` parses it. A rule relates the place
-- where it begins, its reading, and the place after it. Consecutive rules share a place.
--
-- The grammar has two modes. In the file grammar (`any`), a run of white space or of characters of a name may end anywhere.
-- A text is accepted if it can be cut into these rules in any way. In the raw reading (`longest`), each run is as long as
-- possible, so each part has exactly one span.
use Rattle.std.specs.Prelude.{◌≡◌, ℕ, Bool, true, not, ◌&&◌, ◌||◌, ◌==◌, List, [], ◌∷◌, ⊤, cond, codes}
use Rattle.std.specs.Char.{is_whitespace, is_ascii_digit}
use Rattle.std.specs.Str.{str_eq_ignore_ascii_case}
use Rattle.bib_text.specs.Places.{Place, place, CharAt, Run, Longest, Stops, AtEnd, between}
use Rattle.bib_text.specs.Braces.{Parts}
use Rattle.bib_syntax.specs.Characters.{is_key, is_id_start, is_id_continue}
use Rattle.bib_syntax.specs.Reading.{Part, part, Piece, FieldReading, FileReading, empty_reading, then}
use Rattle.bib_syntax.specs.Reading.Piece.{literal, abbreviation}
use Rattle.bib_text.specs.Characters as char

-- whether a run of characters may end anywhere (`any`) or is as long as possible (`longest`)
pub data Mode : Type 0 where
  any : Mode
  longest : Mode

-- a run of zero or more characters that pass `test`; in the mode `longest`, the longest run
abbrev pub Chars : Mode → (ℕ → Bool) → Place → Place → Type 0
Chars any test u v = Run test u v
Chars longest test u v = Longest test u v

-- in the mode `longest`, no character at `u` passes `test`; always true in the mode `any`
abbrev pub Ends : Mode → (ℕ → Bool) → Place → Type 0
Ends any test u = ⊤
Ends longest test u = Stops test u

-- a run of white space, possibly empty
abbrev pub White : Mode → Place → Place → Type 0
White mode u v = Chars mode is_whitespace u v

-- an identifier: a first character, and zero or more characters after it; `name` is its text with its span
pub record Identifier (mode : Mode) (u : Place) (name : Part) (v : Place) : Type 0 where
  pub second : Place
  pub first : ℕ
  pub here : CharAt u first second
  pub starts : is_id_start first ≡ true
  pub rest : Chars mode is_id_continue second v
  pub reading : name ≡ part u v

-- a number: an ASCII digit, and then zero or more ASCII digits and at most one point
pub data Number (mode : Mode) : Place → Place → Type 0 where
  whole : {u v w : Place} {c : ℕ} → CharAt u c v → is_ascii_digit c ≡ true → Chars mode is_ascii_digit v w
      → Ends mode (λ d. d == char.point) w → Number mode u w
  broken : {u v w x y : Place} {c : ℕ} → CharAt u c v → is_ascii_digit c ≡ true → Chars mode is_ascii_digit v w
      → CharAt w char.point x → Chars mode is_ascii_digit x y → Ends mode (λ d. d == char.point) y → Number mode u y

-- the text in quotes: characters except quotes and backslashes, and backslashes with the character that each escapes
pub data QuotedParts : Place → Place → Type 0 where
  none : {u : Place} → QuotedParts u u
  plain : {u v w : Place} {c : ℕ} → CharAt u c v → not (c == char.quote) && not (c == char.backslash) ≡ true
      → QuotedParts v w → QuotedParts u w
  hidden : {u v w x : Place} {c : ℕ} → CharAt u char.backslash v → CharAt v c w → QuotedParts w x → QuotedParts u x

-- a quoted text, from its first quote to after its last; `content` is the text between them
pub record Quoted (u : Place) (content : Part) (v : Place) : Type 0 where
  pub inside : Place
  pub following : Place
  pub opens : CharAt u char.quote inside
  pub parts : QuotedParts inside following
  pub closes : CharAt following char.quote v
  pub reading : content ≡ part inside following

-- a braced text, from its opening brace to after its closing brace; `content` is the text between them
pub record Braced (u : Place) (content : Part) (v : Place) : Type 0 where
  pub inside : Place
  pub following : Place
  pub opens : CharAt u char.open_brace inside
  pub parts : Parts inside following
  pub closes : CharAt following char.close_brace v
  pub reading : content ≡ part inside following

-- no ASCII digit is at `u`; a piece that begins with an ASCII digit is a number
abbrev pub NoDigit : Place → Type 0
NoDigit u = (c : ℕ) (v : Place) → CharAt u c v → is_ascii_digit c ≡ true → ⊥

-- a piece of a value: a number, the name of an abbreviation, a braced or a quoted text
pub data Element (mode : Mode) : Place → Piece → Place → Type 0 where
  number : {u v : Place} → Number mode u v → Element mode u (literal (part u v)) v
  named : {u v : Place} {p : Part} → NoDigit u → Identifier mode u p v → Element mode u (abbreviation p) v
  braced : {u v : Place} {p : Part} → Braced u p v → Element mode u (literal p) v
  quoted : {u v : Place} {p : Part} → Quoted u p v → Element mode u (literal p) v

-- one or more pieces separated by `#`; white space may follow each piece and each `#`
pub data Elements (mode : Mode) : Place → List Piece → Place → Type 0 where
  last : {u v w : Place} {e : Piece} → Element mode u e v → White mode v w → Ends mode (λ c. c == char.hash) w → Elements mode u (e ∷ []) w
  more : {u v w x y z : Place} {e : Piece} {es : List Piece} → Element mode u e v → White mode v w → CharAt w char.hash x
      → White mode x y → Elements mode y es z → Elements mode u (e ∷ es) z

-- a field: a name, an equals sign and a value; the span of the value includes the white space after it
pub record Field (mode : Mode) (u : Place) (f : FieldReading) (v : Place) : Type 0 where
  pub name_end : Place
  pub before_sign : Place
  pub after_sign : Place
  pub value_start : Place
  pub name : Identifier mode u f.name name_end
  pub white : White mode name_end before_sign
  pub sign : CharAt before_sign char.equals after_sign
  pub white' : White mode after_sign value_start
  pub elements : Elements mode value_start f.value.pieces v
  pub starts : f.value.start ≡ value_start.at
  pub ends : f.value.end ≡ v.at

-- a percent sign and the rest of its line, up to the line feed or the end of the text
pub record LineComment (u v : Place) : Type 0 where
  pub inside : Place
  pub sign : CharAt u char.percent inside
  pub line : Longest (λ c. not (c == char.line_feed)) inside v

-- white space, in which one line comment may occur
pub data Gap (mode : Mode) : Place → Place → Type 0 where
  white : {u v : Place} → White mode u v → Ends mode (λ c. c == char.percent) v → Gap mode u v
  line_comment : {u v w x : Place} → White mode u v → LineComment v w → White mode w x → Gap mode u x

-- zero or more fields separated by commas; one more comma may follow the last
pub data Fields (mode : Mode) : Place → List FieldReading → Place → Type 0 where
  none : {u v : Place} → White mode u v → Fields mode u [] v
  last : {u v w : Place} {f : FieldReading} → Field mode u f v → Gap mode v w → Fields mode u (f ∷ []) w
  more : {u v w x y z : Place} {f : FieldReading} {fs : List FieldReading} → Field mode u f v → Gap mode v w → CharAt w char.comma x
      → Gap mode x y → Fields mode y fs z → Fields mode u (f ∷ fs) z

-- whether `name` is `word` in any ASCII case
abbrev pub is_word : List ℕ → List ℕ → Bool
is_word name word = str_eq_ignore_ascii_case name word

-- the kinds of blocks: a comment, a preamble, definitions of abbreviations, or an entry
pub data BlockKind : Type 0 where
  comment : BlockKind
  preamble : BlockKind
  strings : BlockKind
  entry : BlockKind

-- the kind of a block with this name
abbrev pub block_kind : List ℕ → BlockKind
block_kind name =
    cond (is_word name (codes "comment")) BlockKind.comment
    (cond (is_word name (codes "preamble")) BlockKind.preamble
    (cond (is_word name (codes "string")) BlockKind.strings BlockKind.entry))

-- the head of a block: an at sign, a name, white space, an opening brace or a quote, and white space; `kind` is the name
pub record Head (mode : Mode) (u : Place) (kind : Part) (v : Place) : Type 0 where
  pub name_start : Place
  pub name_end : Place
  pub before_brace : Place
  pub after_brace : Place
  pub brace : ℕ
  pub sign : CharAt u char.at name_start
  pub name : Identifier mode name_start kind name_end
  pub white : White mode name_end before_brace
  pub opens : CharAt before_brace brace after_brace
  pub is_brace : brace == char.open_brace || brace == char.quote ≡ true
  pub white' : White mode after_brace v

-- the rest of a block after its head, and the reading of the block; the block begins at `start` and has the name `kind`
pub data Body (mode : Mode) (start : Place) (kind : Part) : BlockKind → Place → FileReading → Place → Type 0 where
  comment : {u w : Place} (v : Place) → Chars mode (λ c. not (c == char.close_brace)) u v → CharAt v char.close_brace w
      → Body mode start kind BlockKind.comment u empty_reading w
  preamble : {u v w x : Place} {p : Part} {c : ℕ} → Quoted u p v → White mode v w → CharAt w c x
      → c == char.close_brace || c == char.quote ≡ true
      → Body mode start kind BlockKind.preamble u (record { preamble = between u v; entries = []; abbreviations = [] }) x
  strings : {u v w : Place} {fs : List FieldReading} → Fields mode u fs v → CharAt v char.close_brace w
      → Body mode start kind BlockKind.strings u (record { preamble = []; entries = []; abbreviations = fs }) w
  entry : {u w x y z end : Place} {fs : List FieldReading} (v : Place) → Chars mode is_key u v → White mode v w
      → CharAt w char.comma x → Gap mode x y
      → Fields mode y fs z → CharAt z char.close_brace end
      → Body mode start kind BlockKind.entry u
      (record {
        preamble = [];
        entries = record { key = part u v; kind = kind; fields = fs; start = start.at; end = z.at } ∷ [];
        abbreviations = [];
      }) end

-- a block, from its at sign to after the brace or quote that ends it
pub record Block (mode : Mode) (u : Place) (says : FileReading) (v : Place) : Type 0 where
  pub inside : Place
  pub kind : Part
  pub head : Head mode u kind inside
  pub body : Body mode u kind (block_kind kind.text) inside says v

-- the rest of a file from a place: blocks, line comments, and other characters, which are skipped
pub data File (mode : Mode) : Place → FileReading → Type 0 where
  end : {u : Place} → AtEnd u → File mode u empty_reading
  skipped : {u v : Place} {c : ℕ} {says : FileReading} → CharAt u c v
      → not (c == char.at) && not (c == char.percent) ≡ true → File mode v says → File mode u says
  line_comment : {u v : Place} {says : FileReading} → LineComment u v → File mode v says → File mode u says
  block : {u v : Place} {first rest : FileReading} → Block mode u first v → File mode v rest → File mode u (then first rest)

-- the file grammar accepts `text`
abbrev pub IsFile : List ℕ → Type 0
IsFile text = (says : FileReading) × File any (place text 0) says

-- `says` is the raw reading of `text`, in which each run is as long as possible
abbrev pub IsRawReading : List ℕ → FileReading → Type 0
IsRawReading text says = File longest (place text 0) says
