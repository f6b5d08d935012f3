use Rattle.bib_csl.proofs.ByteFacts.{same_six}
use Rattle.bib_csl.proofs.texts.ends_with_plain_mark.Goals as goal

pub returns : goal.returns
returns c =
    same_six c.has_end.result c.has_end-2.result c.has_end-3.result c.has_end-4.result c.has_end-5.result c.has_end-6.result _ _ _ _ _ _
    c.has_end.ensures c.has_end-2.ensures c.has_end-3.ensures c.has_end-4.ensures c.has_end-5.ensures c.has_end-6.ensures
