-- Meaning: words of public contracts.
-- The chunks of a field in JSON, or the first fault. docs/entries.schema.json describes the JSON.
use Rattle.std.specs.Prelude.{ℕ, Bool, ◌+◌, ◌==◌, if◌then◌else◌, List, [], ◌∷◌, codes, bytes_eq, is_some, Option, Some, None, option_and_then, ok_or, Result, Ok, Err}
use Rattle.json.specs.Find.{get}
use Rattle.json.specs.Json.{Json}
use Rattle.bib_chunks.specs.Values.{Value, nowhere}
use Rattle.bib_chunks.specs.declared.chunk.Chunk.{Chunk}
use Rattle.bib_chunks.specs.declared.chunk.Chunk.TheVariants.{Normal, Verbatim, Math}
use Rattle.bib_from_csl.specs.Objects.{array_elements, object_size, one_if, string_under}
use Rattle.bib_from_json.specs.declared.reading.Fault.{Fault}
use Rattle.bib_from_json.specs.declared.reading.Fault.TheVariants.{NoChunks, FieldMember, NotAChunk, ChunkMember, WrongKind}

-- the chunk of a kind; `None` if no chunks have this kind
abbrev pub chunk_of_kind : List ℕ → List ℕ → Option Chunk
chunk_of_kind kind text =
    if bytes_eq kind (codes "normal") then Some (Normal text)
    else if bytes_eq kind (codes "verbatim") then Some (Verbatim text)
    else if bytes_eq kind (codes "math") then Some (Math text)
    else None

-- 1 if an object has a member with this name, otherwise 0
abbrev pub one_under : List ℕ → Json → ℕ
one_under name j = one_if (is_some (get name j))

-- whether an object with the members `kind` and `text` has no others, except `start` and `end`, and none of them twice
abbrev pub has_chunk_members : Json → Bool
has_chunk_members j = object_size j == 2 + (one_under (codes "start") j + one_under (codes "end") j)

-- the chunk with these texts as its `kind` and its `text`, or the fault; the flag says whether its members are those of a chunk
abbrev pub chunk_with : Bool → Option (List ℕ) → Option (List ℕ) → Result Chunk Fault
chunk_with has_members None text = Err NotAChunk
chunk_with has_members (Some kind) None = Err NotAChunk
chunk_with has_members (Some kind) (Some text) = if has_members then ok_or (chunk_of_kind kind text) WrongKind else Err ChunkMember

-- the chunk of a JSON value, or the fault
abbrev pub chunk_in : Json → Result Chunk Fault
chunk_in j = chunk_with (has_chunk_members j) (string_under (codes "kind") j) (string_under (codes "text") j)

-- a chunk before others; the first fault counts
abbrev pub before_chunks : Result Chunk Fault → Result Value Fault → Result Value Fault
before_chunks (Err fault) rest = Err fault
before_chunks (Ok chunk) (Err fault) = Err fault
before_chunks (Ok chunk) (Ok chunks) = Ok (nowhere chunk ∷ chunks)

-- the chunks of JSON values, or the first fault
abbrev pub chunks_from : List Json → Result Value Fault
chunks_from [] = Ok []
chunks_from (j ∷ js) = before_chunks (chunk_in j) (chunks_from js)

-- whether an object with the member `chunks` has no others, except `value`, and none of them twice
abbrev pub has_field_members : Json → Bool
has_field_members j = object_size j == 1 + one_under (codes "value") j

-- the chunks of a field with these elements of its array `chunks`, or the fault; the flag says whether its members are those of a field
abbrev pub checked_chunks : Bool → Option (List Json) → Result Value Fault
checked_chunks has_members None = Err NoChunks
checked_chunks has_members (Some js) = if has_members then chunks_from js else Err FieldMember

-- the chunks of a field, or the fault; the member `value` is ignored
abbrev pub field_chunks : Json → Result Value Fault
field_chunks j = checked_chunks (has_field_members j) (option_and_then array_elements (get (codes "chunks") j))
