-- Meaning: words of public contracts.
-- Styled text: the characters and math texts of chunks, without the borders between chunks.
use Rattle.std.specs.Prelude.{ℕ, ◌==◌, Bool, true, false, not, List, [], ◌∷◌, length, map}
use Rattle.std.specs.declared.ops.Range.{Range}
use Rattle.std.specs.List.{flat_map}
use Rattle.std.specs.Str.{chars}
use Rattle.bib_chunks.specs.declared.chunk.Chunk.{Chunk}
use Rattle.bib_chunks.specs.declared.chunk.Chunk.TheVariants.{Normal, Verbatim, Math}
use Rattle.bib_text.specs.declared.spanned.Spanned.{Spanned}

-- the bytes of a chunk's text
abbrev pub text_of : Chunk → List ℕ
text_of (Normal text) = text
text_of (Verbatim text) = text
text_of (Math text) = text

-- an element of styled text: a normal character, a verbatim character, or a math text as a list of its characters
pub data Atom : Type 0 where
  normal : ℕ → Atom
  verbatim : ℕ → Atom
  math : List ℕ → Atom

-- the atoms of one chunk: its characters, or one math text
abbrev pub atoms_of : Chunk → List Atom
atoms_of (Normal text) = map Atom.normal (chars text)
atoms_of (Verbatim text) = map Atom.verbatim (chars text)
atoms_of (Math text) = Atom.math (chars text) ∷ []

-- the styled text of chunks: their atoms in order
abbrev pub styled : List (Spanned Chunk) → List Atom
styled = flat_map (λ c. atoms_of c.v)

-- whether a chunk has atoms: an empty normal or verbatim one has none
abbrev pub is_shown : Chunk → Bool
is_shown (Normal text) = not (length text == 0)
is_shown (Verbatim text) = not (length text == 0)
is_shown (Math text) = true

-- whether two chunks are both normal or both verbatim
abbrev pub is_same_kind : Chunk → Chunk → Bool
is_same_kind (Normal text) (Normal more) = true
is_same_kind (Verbatim text) (Verbatim more) = true
is_same_kind (Normal text) (Verbatim more) = false
is_same_kind (Normal text) (Math more) = false
is_same_kind (Verbatim text) (Normal more) = false
is_same_kind (Verbatim text) (Math more) = false
is_same_kind (Math text) other = false

-- the end of the last of these chunks; `end` if there are none
abbrev pub last_end : ℕ → List (Spanned Chunk) → ℕ
last_end end [] = end
last_end end (c ∷ rest) = last_end c.span.end rest

-- the span from the start of the first chunk to the end of the last one; 0 to 0 if there are no chunks
abbrev pub whole_span : List (Spanned Chunk) → Range ℕ
whole_span [] = record { start = 0; end = 0 }
whole_span (c ∷ rest) = record { start = c.span.start; end = last_end c.span.end rest }
