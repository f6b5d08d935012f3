use Rattle.std.proofs.Common.{length, ◌-◌}
use Rattle.bib_text.proofs.PlaceFacts.{Ahead}
use Rattle.bib_syntax.proofs.QuoteFacts.{SameQuoted}
use Rattle.bib_syntax.proofs.raw.words.quoted_parts.Given as goal

abbrev pub invariant-parts : goal.invariant-parts
invariant-parts l = Ahead l.fn.s l.s × SameQuoted l.fn.s l.s

abbrev pub decreases-parts : goal.decreases-parts
decreases-parts l = length l.s.text - l.s.at
