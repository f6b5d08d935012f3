use Rattle.std.proofs.Common.{◌≡◌, drop}
use Rattle.bibkit_core.specs.Encodings.{has_run_beyond_ascii}
use Rattle.bibkit_core.proofs.encodings.has_run_beyond_ascii.Given as goal

-- four of the remaining bytes in a row aren't ASCII exactly if four of all bytes aren't
abbrev pub invariant-bytes : goal.invariant-bytes
invariant-bytes l = has_run_beyond_ascii (drop l.index l.bytes) ≡ has_run_beyond_ascii l.bytes
