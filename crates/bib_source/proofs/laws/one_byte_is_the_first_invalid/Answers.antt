use Rattle.bib_source.proofs.InvalidFacts.{one_index, not_utf8, no_character}
use Rattle.bib_source.proofs.laws.one_byte_is_the_first_invalid.Goals as goal

pub returns-clause-one : goal.returns-clause-one
returns-clause-one c = one_index

pub returns-clause-none : goal.returns-clause-none
returns-clause-none c = not_utf8

pub returns-clause-no_character : goal.returns-clause-no_character
returns-clause-no_character c = no_character
