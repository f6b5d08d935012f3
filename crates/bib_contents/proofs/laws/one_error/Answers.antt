use Rattle.bib_contents.proofs.FailFacts.{fails_stuck, kind_same}
use Rattle.bib_contents.proofs.laws.one_error.Goals as goal

pub returns-clause-unread : goal.returns-clause-unread
returns-clause-unread c is_verbatim text kind atoms fails read = fails_stuck fails atoms read

pub returns-clause-kind : goal.returns-clause-kind
returns-clause-kind c is_verbatim text first second one two = kind_same one two
