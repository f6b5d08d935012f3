-- Meaning: words of public contracts.
-- Chunks whose text is borrowed to be changed.
use Rattle.std.specs.Prelude.{ℕ, List}
use Rattle.std.specs.Borrow.{Lends, MutBor, Fml}
use Rattle.bib_chunks.specs.declared.chunk.Chunk.{Chunk}
use Rattle.bib_chunks.specs.declared.chunk.Chunk.TheVariants.{Normal, Verbatim, Math}
use Rattle.bib_chunks.specs.contracts.chunk.Chunk.{the_row as chunk_row}
use Rattle.bib_text.specs.contracts.text.Text.{the_row as text_row}

-- a chunk of the same kind as `chunk`, with the text `new`
abbrev pub with_text : Chunk → List ℕ → Chunk
with_text (Normal text) new = Normal new
with_text (Verbatim text) new = Verbatim new
with_text (Math text) new = Math new

-- when the borrow ends, the chunk has its old kind and the last value of the borrowed text
abbrev pub LendsText : MutBor Chunk → MutBor (List ℕ) → Fml
LendsText chunk text = Lends chunk_row text_row chunk text (with_text chunk.now)
