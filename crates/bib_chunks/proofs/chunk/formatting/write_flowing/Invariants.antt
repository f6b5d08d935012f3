use Rattle.std.proofs.Common.{◌≡◌, ◌++◌, ◌-◌, length}
use Rattle.std.specs.Prelude.{string_bytes, encode_utf8_all}
use Rattle.std.specs.Str.{chars, IsUtf8}
use Rattle.bib_chunks.specs.Formatted.{ends_in_space, flowing}
use Rattle.bib_text.proofs.TextFacts.{ahead}
use Rattle.bib_chunks.proofs.chunk.formatting.write_flowing.Given as goal

-- the output and the rest on one line are the old output and the whole text on one line; both texts end in white space or neither
abbrev pub invariant-text : goal.invariant-text
invariant-text l =
    (l.scanner.text ≡ l.text)
    × IsUtf8 (ahead l.scanner)
    ×
    (string_bytes l.out ++ encode_utf8_all (flowing l.after (chars (ahead l.scanner)))
    ≡ string_bytes l.initial.out ++ encode_utf8_all (flowing l.space (chars l.text)))
    × (ends_in_space l.after (flowing l.after (chars (ahead l.scanner))) ≡ ends_in_space l.space (flowing l.space (chars l.text)))

abbrev pub decreases-text : goal.decreases-text
decreases-text l = length l.scanner.text - l.scanner.at
