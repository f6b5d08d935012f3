use Rattle.std.proofs.Common.{◌≡◌, ◌++◌, replicate}
use Rattle.std.specs.Prelude.{string_bytes, encode_utf8_all}
use Rattle.bib_contents.proofs.writing.write_dashes.Given as goal

abbrev pub invariant-threes : goal.invariant-threes
invariant-threes l = string_bytes l.text ≡ string_bytes l.fn.text ++ encode_utf8_all (replicate l.counter 8212)
