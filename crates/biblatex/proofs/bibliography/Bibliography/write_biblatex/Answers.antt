use Rattle.std.proofs.Common.{rules}
use Rattle.biblatex.proofs.bibliography.Bibliography.write_biblatex.Goals as goal

pub returns-clause-handed : goal.returns-clause-handed
returns-clause-handed g c = search rules
