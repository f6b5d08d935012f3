use Rattle.std.proofs.Common.{suc, arith}
use Rattle.bib_syntax.proofs.FileOutcomes.{file_case}
use Rattle.bib_syntax.proofs.LeftFacts.{text_left}
use Rattle.bib_syntax.proofs.laws.has_reading_or_error.Goals as goal

pub returns : goal.returns
returns c text utf8 = let left = text_left text utf8 in file_case (suc left.0) (omega arith) left.1
