use Rattle.bib_csl.proofs.SentenceLaws.{first_word}
use Rattle.bib_csl.proofs.sentence_laws.first_word_gets_its_capital.Goals as goal

pub returns : goal.returns
returns c = first_word
