-- Machinery: words of private contracts.
-- Appending a chunk to chunks.
use Rattle.std.specs.Prelude.{List, [], ◌∷◌}
use Rattle.bib_chunks.specs.declared.chunk.Chunk.{Chunk}
use Rattle.bib_text.specs.declared.spanned.Spanned.{Spanned}
use Rattle.bib_chunks.specs.Lists.{before}

-- Chunks with another one appended. If it and the last of them are both normal or both verbatim, they are merged, with the span
-- of the last.
abbrev pub with_chunk : List (Spanned Chunk) → Spanned Chunk → List (Spanned Chunk)
with_chunk [] chunk = chunk ∷ []
with_chunk (last ∷ []) chunk = before last (chunk ∷ [])
with_chunk (first ∷ next ∷ rest) chunk = first ∷ with_chunk (next ∷ rest) chunk
