-- Meaning: words of public contracts.
-- Comma lists in a styled text.
use Rattle.std.specs.Prelude.{ℕ, false, List, [], ◌∷◌, ◌++◌, map, encode_utf8, encode_utf8_all, if◌then◌else◌}
use Rattle.bib_chunks.specs.declared.chunk.Chunk.{Chunk}
use Rattle.bib_chunks.specs.declared.chunk.Chunk.TheVariants.{Normal, Verbatim, Math}
use Rattle.bib_text.specs.declared.spanned.Spanned.{Spanned}
use Rattle.bib_chunks.specs.Cuts.{with_span, comma_list}
use Rattle.bib_chunks.specs.Formatted.{formatted_atoms}
use Rattle.bib_chunks.specs.Styled.{Atom, styled, is_same_kind}

-- the first chunk with the text of the second one appended, if both are normal or both verbatim; otherwise unchanged
abbrev pub lengthened_chunk : Chunk → Chunk → Chunk
lengthened_chunk (Normal text) (Normal more) = Normal (text ++ more)
lengthened_chunk (Verbatim text) (Verbatim more) = Verbatim (text ++ more)
lengthened_chunk (Normal text) (Verbatim more) = Normal text
lengthened_chunk (Normal text) (Math more) = Normal text
lengthened_chunk (Verbatim text) (Normal more) = Verbatim text
lengthened_chunk (Verbatim text) (Math more) = Verbatim text
lengthened_chunk (Math text) other = Math text

-- a chunk with the span 0 to 0
abbrev pub at_start : Chunk → Spanned Chunk
at_start chunk = with_span chunk 0 0

-- the chunk of a single atom
abbrev pub chunk_of : Atom → Chunk
chunk_of (Atom.normal c) = Normal (encode_utf8 c)
chunk_of (Atom.verbatim c) = Verbatim (encode_utf8 c)
chunk_of (Atom.math cs) = Math (encode_utf8_all cs)

-- a chunk prepended to others. If it and the first of them are both normal or both verbatim, they are merged, with the
-- span of the prepended one.
abbrev pub before : Spanned Chunk → List (Spanned Chunk) → List (Spanned Chunk)
before chunk [] = chunk ∷ []
before chunk (next ∷ rest) =
    if is_same_kind chunk.v next.v then with_span (lengthened_chunk chunk.v next.v) chunk.span.start chunk.span.end ∷ rest
    else chunk ∷ next ∷ rest

-- the chunks of a styled text, each with the span 0 to 0. No normal or verbatim one is empty, and no two neighbours are
-- both normal or both verbatim.
abbrev pub chunks_of : List Atom → List (Spanned Chunk)
chunks_of [] = []
chunks_of (atom ∷ atoms) = before (at_start (chunk_of atom)) (chunks_of atoms)

-- the parts of a styled text that is a comma list, each formatted, in bytes
abbrev pub comma_texts : List Atom → List (List ℕ)
comma_texts atoms = map (λ part. encode_utf8_all (formatted_atoms false (styled part))) (comma_list (chunks_of atoms))
