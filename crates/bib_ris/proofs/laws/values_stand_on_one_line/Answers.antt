use Rattle.std.proofs.Common.{map, refl}
use Rattle.std.specs.Str.{chars}
use Rattle.bib_ris.specs.Lines.{on_line}
use Rattle.bib_ris.proofs.LineFacts.{none_breaks}
use Rattle.bib_ris.proofs.laws.values_stand_on_one_line.Goals as goal

pub returns : goal.returns
returns c text = (map on_line (chars text), refl, none_breaks (chars text))
