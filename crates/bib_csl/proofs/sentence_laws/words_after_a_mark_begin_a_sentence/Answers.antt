use Rattle.bib_csl.proofs.SentenceLaws.{word_after_mark}
use Rattle.bib_csl.proofs.sentence_laws.words_after_a_mark_begin_a_sentence.Goals as goal

pub returns : goal.returns
returns c = word_after_mark
