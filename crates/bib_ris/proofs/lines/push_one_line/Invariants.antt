use Rattle.std.proofs.Common.{◌≡◌, ◌++◌, map}
use Rattle.std.specs.Prelude.{string_bytes, encode_utf8_all}
use Rattle.bib_ris.specs.Lines.{on_line}
use Rattle.bib_ris.proofs.lines.push_one_line.Given as goal

abbrev pub invariant-text : goal.invariant-text
invariant-text l = string_bytes l.out ≡ string_bytes l.initial.out ++ encode_utf8_all (map on_line l.yielded)
