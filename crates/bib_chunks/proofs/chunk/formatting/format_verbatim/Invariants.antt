use Rattle.std.proofs.Common.{◌≡◌, ◌++◌, drop}
use Rattle.std.specs.Prelude.{string_bytes, encode_utf8_all}
use Rattle.bib_chunks.specs.Formatted.{formatted_chars, formatted_chars_after}
use Rattle.bib_chunks.proofs.chunk.formatting.format_verbatim.Given as goal

-- the output followed by the rest, formatted, is the whole text
abbrev pub invariant-chunks : goal.invariant-chunks
invariant-chunks l =
    string_bytes l.out ++ encode_utf8_all (formatted_chars_after l.space (drop l.chunk-index l.chunks))
    ≡ encode_utf8_all (formatted_chars l.chunks)
