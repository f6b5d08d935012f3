use Rattle.bib_csl.proofs.SentenceLaws.{word_changes_at_start}
use Rattle.bib_csl.proofs.sentence_laws.only_first_letters_change.Goals as goal

pub returns : goal.returns
returns c at letter word rest = word_changes_at_start at letter word rest
