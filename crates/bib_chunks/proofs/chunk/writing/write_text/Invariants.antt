use Rattle.std.proofs.Common.{◌≡◌, ◌++◌, ◌-◌, length}
use Rattle.std.specs.Prelude.{string_bytes, encode_utf8_all}
use Rattle.std.specs.Str.{chars, IsUtf8}
use Rattle.bib_chunks.specs.Written.{spelling}
use Rattle.bib_text.proofs.TextFacts.{ahead}
use Rattle.bib_chunks.proofs.chunk.writing.write_text.Given as goal

-- the output and the spelling of the rest are the old output and the spelling of the whole text
abbrev pub invariant-text : goal.invariant-text
invariant-text l =
    (l.scanner.text ≡ l.text)
    × IsUtf8 (ahead l.scanner)
    ×
    (string_bytes l.out ++ encode_utf8_all (spelling l.is_verbatim (chars (ahead l.scanner)))
    ≡ string_bytes l.initial.out ++ encode_utf8_all (spelling l.is_verbatim (chars l.text)))

abbrev pub decreases-text : goal.decreases-text
decreases-text l = length l.scanner.text - l.scanner.at
