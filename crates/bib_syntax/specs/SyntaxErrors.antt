-- Meaning: words of public contracts.
-- Which error of the grammar is reported for a text that the file grammar rejects, and where.
--
-- For each rule whose failure is reported, a definition states how it fails in the mode `longest`. It relates the place where the
-- rule begins, the kind of the error, and the place where the error is reported. This is the first place where a required part
-- is missing, or the second point of a number. A part is missing if the character there fails its test, or the text ends
-- (`Stops`). An unclosed brace or quote is reported at the end of the text.
use Rattle.std.specs.Prelude.{◌≡◌, ℕ, ◌==◌, ◌||◌, ◌&&◌, not, Bool, true, List, length}
use Rattle.std.specs.Char.{is_ascii_digit}
use Rattle.bib_text.specs.Places.{Place, place, CharAt, Stops, Longest, AtEnd}
use Rattle.bib_text.specs.Braces.{Parts}
use Rattle.bib_text.specs.Characters as char
use Rattle.bib_syntax.specs.declared.raw.Token.TheVariants as token
use Rattle.bib_syntax.specs.declared.raw.ParseErrorKind.{ParseErrorKind}
use Rattle.bib_syntax.specs.declared.raw.ParseErrorKind.TheVariants.{UnexpectedEof, Unexpected, Expected}
use Rattle.bib_syntax.specs.declared.raw.ParseError.{ParseError}
use Rattle.bib_syntax.specs.Characters.{is_key, is_id_start}
use Rattle.bib_syntax.specs.Reading.{Part, Piece, FieldReading, FileReading}
use Rattle.bib_syntax.specs.Grammar.{longest, White, Identifier, QuotedParts, Quoted, Element, Field, Gap, LineComment, BlockKind, block_kind, Head, Block}

-- the end of the text of `u`
abbrev pub text_end : Place → Place
text_end u = place u.text (length u.text)

-- an identifier is missing
pub data IdentifierFails : Place → ParseErrorKind → Place → Type 0 where
  missing : {u : Place} → Stops is_id_start u → IdentifierFails u (Expected token.Identifier) u

-- a number has a second point, where the error is reported
pub data NumberFails : Place → ParseErrorKind → Place → Type 0 where
  second_point : {u v w x y : Place} → Longest is_ascii_digit u v → CharAt v char.point w → Longest is_ascii_digit w x
      → CharAt x char.point y → NumberFails u (Unexpected token.DecimalPoint) x

-- a quote is missing, or it isn't closed before the text ends
pub data QuotedFails : Place → ParseErrorKind → Place → Type 0 where
  missing : {u : Place} → Stops (λ c. c == char.quote) u → QuotedFails u (Expected token.QuotationMark) u
  unclosed : {u v : Place} → CharAt u char.quote v → ((w x : Place) → QuotedParts v w → CharAt w char.quote x → ⊥)
      → QuotedFails u UnexpectedEof (text_end u)

-- a brace isn't closed before the text ends
pub data BracedFails : Place → ParseErrorKind → Place → Type 0 where
  unclosed : {u v : Place} → CharAt u char.open_brace v → ((w x : Place) → Parts v w → CharAt w char.close_brace x → ⊥)
      → BracedFails u UnexpectedEof (text_end u)

-- whether `c` begins a piece of a value
abbrev pub begins_element : ℕ → Bool
begins_element c = c == char.open_brace || c == char.quote || is_ascii_digit c || is_id_start c

-- a piece is missing, or a piece fails; a missing piece is reported as `UnexpectedEof` even before the end of the text
pub data ElementFails : Place → ParseErrorKind → Place → Type 0 where
  missing : {u : Place} → Stops begins_element u → ElementFails u UnexpectedEof u
  number : {u v w : Place} {c : ℕ} {kind : ParseErrorKind} → CharAt u c v → is_ascii_digit c ≡ true
      → NumberFails u kind w → ElementFails u kind w
  braced : {u v : Place} {kind : ParseErrorKind} → BracedFails u kind v → ElementFails u kind v
  quoted : {u v w : Place} {kind : ParseErrorKind} → CharAt u char.quote v → QuotedFails u kind w → ElementFails u kind w

-- a piece fails, after zero or more pieces, each with a # after it
pub data ElementsFails : Place → ParseErrorKind → Place → Type 0 where
  first : {u v : Place} {kind : ParseErrorKind} → ElementFails u kind v → ElementsFails u kind v
  more : {u v w x y z : Place} {e : Piece} {kind : ParseErrorKind} → Element longest u e v → White longest v w → CharAt w char.hash x
      → White longest x y → ElementsFails y kind z → ElementsFails u kind z

-- the equals sign after a name is missing, or the value fails
pub data FieldFails : Place → ParseErrorKind → Place → Type 0 where
  equals : {u v w : Place} {name : Part} → Identifier longest u name v → White longest v w → Stops (λ c. c == char.equals) w
      → FieldFails u (Expected token.Equals) w
  value : {u v w x y z : Place} {name : Part} {kind : ParseErrorKind} → Identifier longest u name v → White longest v w
      → CharAt w char.equals x
      → White longest x y → ElementsFails y kind z → FieldFails u kind z

-- Fields up to the closing brace of their block fail after zero or more fields, each with a comma after it, in four cases. The
-- next field fails. Neither a comma nor the brace follows that field. Instead of a field or the brace, another character
-- occurs, or the text ends.
pub data FieldsFails : Place → ParseErrorKind → Place → Type 0 where
  first : {u v : Place} {kind : ParseErrorKind} → FieldFails u kind v → FieldsFails u kind v
  more : {u v w x y z : Place} {f : FieldReading} {kind : ParseErrorKind} → Field longest u f v → Gap longest v w → CharAt w char.comma x
      → Gap longest x y → FieldsFails y kind z → FieldsFails u kind z
  comma : {u v w : Place} {f : FieldReading} → Field longest u f v → Gap longest v w
      → Stops (λ c. c == char.comma || c == char.close_brace) w
      → FieldsFails u (Expected token.Comma) w
  name : {u v : Place} → Stops is_id_start u → White longest u v → Stops (λ c. c == char.close_brace) v → (AtEnd v → ⊥)
      → FieldsFails u (Expected token.Identifier) v
  ended : {u v : Place} → Stops is_id_start u → White longest u v → AtEnd v → FieldsFails u UnexpectedEof v

-- the name after an at sign is missing, or neither a brace nor a quote follows the name
pub data HeadFails : Place → ParseErrorKind → Place → Type 0 where
  name : {u v w : Place} {kind : ParseErrorKind} → CharAt u char.at v → IdentifierFails v kind w → HeadFails u kind w
  brace : {u v w x : Place} {name : Part} → CharAt u char.at v → Identifier longest v name w → White longest w x
      → Stops (λ c. c == char.open_brace || c == char.quote) x → HeadFails u (Expected token.OpeningBrace) x

-- The rest of a block after its head fails in these cases. A comment has no closing brace. The quoted text of a preamble
-- fails, or neither a closing brace nor a quote follows it. Fields fail. The key of an entry has no comma after it.
pub data BodyFails : BlockKind → Place → ParseErrorKind → Place → Type 0 where
  comment : {u v : Place} → Longest (λ c. not (c == char.close_brace)) u v → AtEnd v
      → BodyFails BlockKind.comment u (Expected token.ClosingBrace) v
  preamble : {u v : Place} {kind : ParseErrorKind} → QuotedFails u kind v → BodyFails BlockKind.preamble u kind v
  preamble_end : {u v w : Place} {p : Part} → Quoted u p v → White longest v w → Stops (λ c. c == char.close_brace || c == char.quote) w
      → BodyFails BlockKind.preamble u (Expected token.ClosingBrace) w
  strings : {u v : Place} {kind : ParseErrorKind} → FieldsFails u kind v → BodyFails BlockKind.strings u kind v
  comma : {u v w : Place} → Longest is_key u v → White longest v w → Stops (λ c. c == char.comma) w
      → BodyFails BlockKind.entry u (Expected token.Comma) w
  fields : {u v w x y z : Place} {kind : ParseErrorKind} → Longest is_key u v → White longest v w → CharAt w char.comma x → Gap longest x y
      → FieldsFails y kind z → BodyFails BlockKind.entry u kind z

-- the head of a block fails, or the rest after its head
pub data BlockFails : Place → ParseErrorKind → Place → Type 0 where
  head : {u v : Place} {kind : ParseErrorKind} → HeadFails u kind v → BlockFails u kind v
  body : {u v w : Place} {name : Part} {kind : ParseErrorKind} → Head longest u name v → BodyFails (block_kind name.text) v kind w
      → BlockFails u kind w

-- the first failing block of a file, after line comments, blocks and skipped characters
pub data FileFails : Place → ParseErrorKind → Place → Type 0 where
  skipped : {u v w : Place} {c : ℕ} {kind : ParseErrorKind} → CharAt u c v → not (c == char.at) && not (c == char.percent) ≡ true
      → FileFails v kind w → FileFails u kind w
  line_comment : {u v w : Place} {kind : ParseErrorKind} → LineComment u v → FileFails v kind w → FileFails u kind w
  more : {u v w : Place} {says : FileReading} {kind : ParseErrorKind} → Block longest u says v → FileFails v kind w → FileFails u kind w
  first : {u v : Place} {kind : ParseErrorKind} → BlockFails u kind v → FileFails u kind v

-- the error of this kind with an empty span at `u`
abbrev pub error_at_place : ParseErrorKind → Place → ParseError
error_at_place kind u = record { span = record { start = u.at; end = u.at }; kind = kind }

-- `e` is the error of a rule that fails: `Fails` holds for the kind of `e` and the place of its empty span
pub record Reports (Fails : ParseErrorKind → Place → Type 0) (e : ParseError) : Type 0 where
  pub kind : ParseErrorKind
  pub place : Place
  pub fails : Fails kind place
  pub is : e ≡ error_at_place kind place

-- `e` is the error that is reported for `text`
abbrev pub IsReported : List ℕ → ParseError → Type 0
IsReported text e = Reports (FileFails (place text 0)) e
