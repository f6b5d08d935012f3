use Rattle.biblatex.proofs.ErrorFacts.{file_error_same}
use Rattle.biblatex.proofs.ResolvedFacts.{accepted_faultless}
use Rattle.biblatex.proofs.laws.one_error.Goals as goal

pub returns-clause-none : goal.returns-clause-none
returns-clause-none c says e accepted error = accepted_faultless accepted error

pub returns-clause-one : goal.returns-clause-one
returns-clause-one c says first second one two = file_error_same says one two
