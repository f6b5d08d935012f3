use Rattle.bib_values.proofs.CommaAlone.{kept_alone}
use Rattle.bib_values.proofs.laws.no_other_list_of_texts_survives.Goals as goal

pub returns : goal.returns
returns c texts utf8 same = kept_alone texts utf8 same
