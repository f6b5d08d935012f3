use Rattle.std.proofs.Common.{rules, tests}
use Rattle.std.proofs.lemmas.Iterator.{YieldsList-from_slice}
use Rattle.std.proofs.lemmas.Iterator.Search.{any_from_yields_List}
use Rattle.bib_findings.specs.OtherDigits.{are_digits_from}
use Rattle.bib_findings.proofs.other_digits.are_digits_of.Goals as goal

pub returns : goal.returns
returns c =
    any_from_yields_List (are_digits_from c.args.text.now) _ _ _ c.any.ensures.ran (YieldsList-from_slice c.args.zeros.now cc)
    (λ x b q k. search (rules, tests))
