use Rattle.std.proofs.Common.{◌≡◌, take}
use Rattle.std.specs.List.{flat_map}
use Rattle.bib_from_ris.specs.RisItems.{section_losses}
use Rattle.bib_from_ris.proofs.outside.outside_losses.Given as goal

abbrev pub invariant-sections : goal.invariant-sections
invariant-sections l = l.losses ≡ flat_map section_losses (take l.section-index l.sections)
