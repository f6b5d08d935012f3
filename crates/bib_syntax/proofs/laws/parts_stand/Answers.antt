use Rattle.std.proofs.Common.{refl}
use Rattle.bib_syntax.proofs.SliceFacts.{file_stands}
use Rattle.bib_syntax.proofs.laws.parts_stand.Goals as goal

pub returns : goal.returns
returns c text says reads = file_stands text refl reads
