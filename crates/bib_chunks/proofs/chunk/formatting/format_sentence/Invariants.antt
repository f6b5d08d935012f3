use Rattle.std.proofs.Common.{◌≡◌, ◌++◌, drop}
use Rattle.std.specs.Prelude.{string_bytes, encode_utf8_all}
use Rattle.bib_chunks.specs.Formatted.{sentence, sentence_after}
use Rattle.bib_chunks.proofs.chunk.formatting.format_sentence.Given as goal

-- the output followed by the rest in sentence case is the whole text
abbrev pub invariant-chunks : goal.invariant-chunks
invariant-chunks l =
    string_bytes l.out ++ encode_utf8_all (sentence_after l.begins l.space (drop l.chunk-index l.chunks))
    ≡ encode_utf8_all (sentence l.chunks)
