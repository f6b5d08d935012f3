use Rattle.std.proofs.Common.{rules, tests}
use Rattle.std.proofs.lemmas.Iterator.{YieldsList-from_slice}
use Rattle.std.proofs.lemmas.Iterator.Search.{all_from_yields_List}
use Rattle.bib_findings.specs.VolumeLabels.{is_roman_letter}
use Rattle.bib_findings.proofs.volume_labels.are_roman_letters.Goals as goal

pub returns : goal.returns
returns c =
    all_from_yields_List is_roman_letter _ _ _ c.all.ensures.ran (YieldsList-from_slice c.args.bytes.now cc)
    (λ x b q k. search (rules, tests))
