use Rattle.std.proofs.Common.{◌≡◌, ◌++◌, drop}
use Rattle.bib_from_csl.specs.Losses.{all_losses}
use Rattle.bib_from_csl.proofs.losses.all_losses.Given as goal

abbrev pub invariant-items : goal.invariant-items
invariant-items l = l.losses ++ all_losses (drop l.item-index l.items) l.left ≡ all_losses l.items l.entries
