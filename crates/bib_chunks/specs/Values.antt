-- Meaning: words of public contracts.
-- Chunks as values: the formatted text of chunks, and chunks with a detached span. Both ends of such a span are the greatest
-- 64-bit number, as in the Rust crate `biblatex`.
use Rattle.std.specs.Prelude.{ℕ, ◌-◌, ◌^◌, List, [], ◌∷◌, encode_utf8_all}
use Rattle.std.specs.Str.{str_to_ascii_lowercase}
use Rattle.bib_chunks.specs.declared.chunk.Chunk.{Chunk}
use Rattle.bib_text.specs.declared.spanned.Spanned.{Spanned}
use Rattle.bib_chunks.specs.Formatted.{formatted_chars}
use Rattle.bib_chunks.specs.Cuts.{with_span}

-- the chunks of a value
abbrev pub Value : Type 0
Value = List (Spanned Chunk)

-- the formatted text of chunks, in bytes
abbrev pub text : Value → List ℕ
text chunks = encode_utf8_all (formatted_chars chunks)

-- the formatted text of chunks in bytes, with `A` to `Z` in lower case
abbrev pub lowercase_text : Value → List ℕ
lowercase_text chunks = str_to_ascii_lowercase (text chunks)

-- a chunk with a detached span
abbrev pub nowhere : Chunk → Spanned Chunk
nowhere chunk = with_span chunk (2 ^ 64 - 1) (2 ^ 64 - 1)

-- a value of one chunk with a detached span
abbrev pub alone : Chunk → Value
alone chunk = nowhere chunk ∷ []
