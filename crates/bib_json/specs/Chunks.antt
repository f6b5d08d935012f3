-- Meaning: words of public contracts.
-- Chunks of a field in JSON.
use Rattle.std.specs.Prelude.{ℕ, ◌-◌, ◌^◌, ◌==◌, if◌then◌else◌, List, [], ◌∷◌, codes, Option, Some, None}
use Rattle.bib_chunks.specs.declared.chunk.Chunk.{Chunk}
use Rattle.bib_chunks.specs.declared.chunk.Chunk.TheVariants.{Normal, Verbatim, Math}
use Rattle.bib_chunks.specs.Styled.{text_of}
use Rattle.bib_chunks.specs.Values.{Value}
use Rattle.bib_text.specs.declared.spanned.Spanned.{Spanned}
use Rattle.serde_json.specs.Data.{Data, number, unsigned, string}
use Rattle.bib_json.specs.Objects.{Member, object_of, array_of}

-- the kind of a chunk
abbrev pub kind_name : Chunk → List ℕ
kind_name (Normal text) = codes "normal"
kind_name (Verbatim text) = codes "verbatim"
kind_name (Math text) = codes "math"

-- a byte offset in the source; `None` for a chunk that isn't in it. `start` is the start of the chunk.
abbrev pub byte_unless_nowhere : ℕ → ℕ → Option Data
byte_unless_nowhere start byte = if start == 2 ^ 64 - 1 then None else Some (number (unsigned byte))

-- a chunk: its kind, its text, and its byte offsets in the source, if it is in it
abbrev pub chunk_members : Spanned Chunk → List Member
chunk_members c =
    (codes "kind", Some (string (kind_name c.v)))
    ∷ (codes "text", Some (string (text_of c.v)))
    ∷ (codes "start", byte_unless_nowhere c.span.start c.span.start)
    ∷ (codes "end", byte_unless_nowhere c.span.start c.span.end)
    ∷ []

-- the object of a chunk
abbrev pub chunk_json : Spanned Chunk → Data
chunk_json c = object_of (chunk_members c)

-- the chunks of a field
abbrev pub chunks_json : Value → Data
chunks_json chunks = array_of chunk_json chunks
