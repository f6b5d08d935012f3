use Rattle.std.proofs.Common.{length, ◌-◌}
use Rattle.memchr.specs.Find.{Nowhere, Passes, is_byte3}
use Rattle.bib_text.proofs.scanner.near.Given as goal

abbrev pub invariant-near : goal.invariant-near
invariant-near l = Nowhere (Passes (is_byte3 l.a l.b l.c) l.bytes) 0 l.n

abbrev pub decreases-near : goal.decreases-near
decreases-near l = length l.bytes - l.n
