use Rattle.std.proofs.Common.{◌≡◌, ◌++◌, false, drop}
use Rattle.std.specs.Prelude.{string_bytes, encode_utf8_all}
use Rattle.bib_chunks.specs.Written.{written_chunks}
use Rattle.bib_chunks.proofs.chunk.writing.write_parts.Given as goal

-- the output and the rest, written, are the old output and all chunks, written
abbrev pub invariant-parts : goal.invariant-parts
invariant-parts l =
    string_bytes l.out ++ encode_utf8_all (written_chunks l.is_verbatim l.is_open (drop l.chunk-index l.chunks))
    ≡ string_bytes l.initial.out ++ encode_utf8_all (written_chunks l.is_verbatim false l.chunks)
