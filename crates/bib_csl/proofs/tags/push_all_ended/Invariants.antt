use Rattle.std.proofs.Common.{◌≡◌, ◌++◌, length, reverse}
use Rattle.bib_csl.specs.Markup.{all_ended}
use Rattle.bib_csl.proofs.tags.push_all_ended.Given as goal

abbrev pub invariant-open : goal.invariant-open
invariant-open l = l.out ++ all_ended l.has_tags (reverse l.open) ≡ l.initial.out ++ all_ended l.has_tags (reverse l.initial.open)

abbrev pub decreases-open : goal.decreases-open
decreases-open l = length l.open
