use Rattle.std.proofs.Common.{◌≡◌, ◌++◌, length}
use Rattle.bib_from_csl.specs.Tags.{all_closed}
use Rattle.bib_from_csl.proofs.tags.push_closed.Given as goal

abbrev pub invariant-tags : goal.invariant-tags
invariant-tags l = l.marked.text ++ all_closed (length l.marked.tags) ≡ l.initial.marked.text ++ all_closed (length l.initial.marked.tags)

abbrev pub decreases-tags : goal.decreases-tags
decreases-tags l = length l.marked.tags
