-- Meaning: words of public contracts.
-- The complete parts of a block that can't be parsed. BibTeX keeps them too: of an entry with an error, it has the key and
-- the fields before the error. Two rules are looser than the grammar. As in BibTeX, a parenthesis may open a block. As in
-- Biber, several line comments may follow each other.
use Rattle.std.specs.Prelude.{◌≡◌, ℕ, ◌==◌, ◌||◌, Bool, true, if◌then◌else◌, List, [], ◌∷◌, length}
use Rattle.bib_text.specs.Places.{Place, CharAt, Longest, Stops}
use Rattle.bib_text.specs.Characters as char
use Rattle.bib_syntax.specs.Characters.{is_key}
use Rattle.bib_syntax.specs.Grammar.{BlockKind, Field, Identifier, LineComment, White, block_kind, longest}
use Rattle.bib_syntax.specs.Reading.{EntryReading, FieldReading, FileReading, Part, empty_reading, part}

-- the reading of a block that is the entry `e`
abbrev pub entry_alone : EntryReading → FileReading
entry_alone e = record { preamble = []; entries = e ∷ []; abbreviations = [] }

-- whether `c` opens a block: an opening brace, a quote or an opening parenthesis
abbrev pub opens_block : ℕ → Bool
opens_block c = c == char.open_brace || c == char.quote || c == char.open_parenthesis

-- the opening of a block: an at sign, a name, white space, a character that opens a block, and white space; `kind` is the name
pub record Opening (u : Place) (kind : Part) (v : Place) : Type 0 where
  pub name_start : Place
  pub name_end : Place
  pub before : Place
  pub after : Place
  pub bracket : ℕ
  pub sign : CharAt u char.at name_start
  pub name : Identifier longest name_start kind name_end
  pub white : White longest name_end before
  pub opens : CharAt before bracket after
  pub is_bracket : opens_block bracket ≡ true
  pub white' : White longest after v

-- white space, in which line comments may occur
pub data Comments : Place → Place → Type 0 where
  white : {u v : Place} → White longest u v → Stops (λ c. c == char.percent) v → Comments u v
  more : {u v w x : Place} → White longest u v → LineComment v w → Comments w x → Comments u x

-- no field begins at `u` and is complete
abbrev pub NoField : Place → Type 0
NoField u = (f : FieldReading) (v : Place) → Field longest u f v → ⊥

-- The complete fields from a place on. They end where no complete field begins, or with a field that has no comma after it.
-- The last place is the end of these fields, with the comma, white space and line comments after the last one.
pub data CompleteFields : Place → List FieldReading → Place → Type 0 where
  none : {u : Place} → NoField u → CompleteFields u [] u
  last : {u v w : Place} {f : FieldReading} → Field longest u f v → Comments v w → Stops (λ c. c == char.comma) w
      → CompleteFields u (f ∷ []) w
  more : {u v w x y z : Place} {f : FieldReading} {fs : List FieldReading} → Field longest u f v → Comments v w
      → CharAt w char.comma x → Comments x y → CompleteFields y fs z → CompleteFields u (f ∷ fs) z

-- an entry without fields that ends at `end`; nothing if its key is empty
abbrev pub key_alone : Place → Part → Part → Place → FileReading
key_alone start kind key end =
    if length key.text == 0 then empty_reading
    else entry_alone (record { key = key; kind = kind; fields = []; start = start.at; end = end.at })

-- The complete parts of the rest of a block after its opening; the block begins at `start` and has the name `kind`. A comment
-- and a preamble have none. An entry whose key has no comma after it has no fields. It is left out if the key is empty.
pub data KeptBody (start : Place) (kind : Part) : BlockKind → Place → FileReading → Type 0 where
  comment : {u : Place} → KeptBody start kind BlockKind.comment u empty_reading
  preamble : {u : Place} → KeptBody start kind BlockKind.preamble u empty_reading
  strings : {u v : Place} {fs : List FieldReading} → CompleteFields u fs v
      → KeptBody start kind BlockKind.strings u (record { preamble = []; entries = []; abbreviations = fs })
  key : {u v w : Place} → Longest is_key u v → White longest v w → Stops (λ c. c == char.comma) w
      → KeptBody start kind BlockKind.entry u (key_alone start kind (part u v) w)
  entry : {u v w x y z : Place} {fs : List FieldReading} → Longest is_key u v → White longest v w → CharAt w char.comma x
      → Comments x y → CompleteFields y fs z
      → KeptBody start kind BlockKind.entry u
      (entry_alone (record { key = part u v; kind = kind; fields = fs; start = start.at; end = z.at }))

-- the complete parts of the block that begins at `u`; none without a complete opening
pub data Kept : Place → FileReading → Type 0 where
  unopened : {u : Place} → ((kind : Part) (v : Place) → Opening u kind v → ⊥) → Kept u empty_reading
  block : {u v : Place} {kind : Part} {says : FileReading} → Opening u kind v → KeptBody u kind (block_kind kind.text) v says
      → Kept u says
