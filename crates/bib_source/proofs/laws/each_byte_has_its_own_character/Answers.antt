use Rattle.bib_source.proofs.TableFacts.{own_character, own_text}
use Rattle.bib_source.proofs.laws.each_byte_has_its_own_character.Goals as goal

pub returns-clause-bytes : goal.returns-clause-bytes
returns-clause-bytes c = own_character

pub returns-clause-texts : goal.returns-clause-texts
returns-clause-texts c = own_text
