use Rattle.bib_csl.proofs.SentenceLaws.{later_word}
use Rattle.bib_csl.proofs.sentence_laws.later_words_become_small.Goals as goal

pub returns : goal.returns
returns c = later_word
