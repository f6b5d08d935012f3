use Rattle.bib_csl.proofs.SentenceLaws.{kept_text}
use Rattle.bib_csl.proofs.sentence_laws.kept_text_stays.Goals as goal

pub returns : goal.returns
returns c at text rest = kept_text at text rest
