-- Machinery: words of private contracts.
-- The characters that a cursor passes, and the contents that were parsed so far.
use Rattle.std.specs.Prelude.{◌≡◌, ◌⊎◌, ℕ, ◌+◌, ◌≤◌, ◌==◌, ◌&&◌, ◌||◌, not, Bool, true, false, List, ◌++◌, length, drop, map, Some, string_bytes, encode_utf8_all}
use Rattle.std.specs.Str.{chars}
use Rattle.bib_text.specs.Places.{Place}
use Rattle.std.specs.declared.string.String.{String}
use Rattle.bib_text.specs.Characters as char
use Rattle.bib_chunks.specs.Styled.{Atom, styled}
use Rattle.bib_chunks.specs.Writing.{Writes}
use Rattle.bib_chunks.specs.declared.chunk.Chunk.{Chunk}
use Rattle.bib_text.specs.declared.spanned.Spanned.{Spanned}
use Rattle.bib_syntax.specs.declared.raw.Token.TheVariants.{ClosingBrace}
use Rattle.bib_syntax.specs.declared.raw.ParseErrorKind.{ParseErrorKind}
use Rattle.bib_syntax.specs.declared.raw.ParseErrorKind.TheVariants.{Unexpected}
use Rattle.bib_contents.specs.ContentErrors.{ContentFails}
use Rattle.bib_contents.specs.Contents.{ContentUnit, Reads, begins, is_space, character, meaning, is_closable, depth_after, inner_text}
use Rattle.bib_chunks.specs.Joined.{ArePlaced}
use Rattle.bib_contents.specs.declared.growing.OpenChunk.{OpenChunk}

-- the characters that are left at a place
abbrev pub left : Place → List ℕ
left u = chars (drop u.at u.text)

-- `v` is the place in the text of `u` after the characters `cs`, which come after `u`
pub record Passes (u : Place) (cs : List ℕ) (v : Place) : Type 0 where
  pub same : v.text ≡ u.text
  pub here : drop u.at u.text ≡ encode_utf8_all cs ++ drop v.at v.text
  pub next : v.at ≡ u.at + length (encode_utf8_all cs)
  pub left : left u ≡ cs ++ left v

-- the parse of `text` begins with `atoms` and goes on at `rest` with `after` braces open. A parse of `rest` gives one
-- of `text`, and a parse of `text` one of `rest`. `text` fails with each kind of error with which `rest` does.
pub record Goes (is_verbatim : Bool) (depth : ℕ) (text : List ℕ) (atoms : List Atom) (after : ℕ) (rest : List ℕ) : Type 0 where
  pub onward : (more : List Atom) → Reads is_verbatim after rest more → Reads is_verbatim depth text (atoms ++ more)
  pub back : (whole : List Atom) → Reads is_verbatim depth text whole → (more : List Atom) × Reads is_verbatim after rest more
  pub fails : (kind : ParseErrorKind) → ContentFails is_verbatim after rest kind → ContentFails is_verbatim depth text kind

-- the text from one place to the other is parsed as the characters `shown`, whatever braces are open
pub record ReadsAs (is_verbatim : Bool) (u : Place) (shown : List ℕ) (v : Place) : Type 0 where
  pub passed : List ℕ
  pub passes : Passes u passed v
  pub goes : (depth : ℕ) → Goes is_verbatim depth (left u) (map (character depth) shown) depth (left v)

-- the text from one place to the other is parsed as characters, and `new` is `old` with them appended
abbrev pub Renders : {A : Type 0} → Bool → Place → Place → String A → String A → Type 0
Renders is_verbatim u v old new = (shown : List ℕ) × ReadsAs is_verbatim u shown v × Writes old new shown

-- a space with no white space after it, or a hyphen with no hyphen after it
abbrev pub is_alone : ℕ → List ℕ → Bool
is_alone c rest =
    (c == char.space && not (begins is_space rest)) || (c == char.hyphen && not (begins (λ d. d == char.hyphen) rest))

-- the atoms parsed so far: those of the finished chunks, and those of the open one
abbrev pub so_far : List (Spanned Chunk) → OpenChunk → List Atom
so_far out growing = styled out ++ map (character growing.depth) (chars (string_bytes growing.text))

-- a unit was parsed with `depth` braces open, and its atoms added to `before`
pub record Took (u : ContentUnit) (depth : ℕ) (before : List Atom) (next_depth : ℕ) (after : List Atom) : Type 0 where
  pub inner : List Atom
  pub closable : is_closable depth u ≡ true
  pub argument : (text : List ℕ) → inner_text u ≡ Some text → Reads false 0 text inner
  pub deep : next_depth ≡ depth_after depth u
  pub atoms : after ≡ before ++ meaning depth u inner

-- a unit fails with this kind of error: it is a closing brace and none is open, or its argument fails
abbrev pub IsUntaken : ContentUnit → ℕ → ParseErrorKind → Type 0
IsUntaken u depth kind =
    ((is_closable depth u ≡ false) × (kind ≡ Unexpected ClosingBrace))
    ⊎ ((text : List ℕ) × (inner_text u ≡ Some text) × ContentFails false 0 text kind)

-- Chunks stay placed. Suppose that `growing` starts neither before the end of `chunks` nor after `end`. Then `grown` starts
-- neither before the end of `more` nor after `following`.
abbrev pub StaysPlaced : List (Spanned Chunk) → OpenChunk → ℕ → List (Spanned Chunk) → OpenChunk → ℕ → Type 0
StaysPlaced chunks growing end more grown following =
    (low : ℕ) → ArePlaced low growing.start chunks → growing.start ≤ end → ArePlaced low grown.start more × (grown.start ≤ following)
