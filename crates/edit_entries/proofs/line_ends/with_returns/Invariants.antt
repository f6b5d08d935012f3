use Rattle.std.proofs.Common.{◌≡◌}
use Rattle.std.specs.Prelude.{string_bytes, encode_utf8_all}
use Rattle.edit_entries.specs.LineEnds.{with_returns}
use Rattle.edit_entries.proofs.LineEndFacts.{last_of}
use Rattle.edit_entries.proofs.line_ends.with_returns.Given as goal

abbrev pub invariant-text : goal.invariant-text
invariant-text l = (string_bytes l.new ≡ encode_utf8_all (with_returns 32 l.yielded)) × (l.before ≡ last_of 32 l.yielded)
