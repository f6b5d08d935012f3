use Rattle.std.proofs.Common.{rules, tests}
use Rattle.std.proofs.lemmas.Iterator.{YieldsList-from_slice}
use Rattle.std.proofs.lemmas.Iterator.Search.{any_from_yields_List}
use Rattle.bib_findings.specs.OtherDigits.{is_digit_from}
use Rattle.bib_findings.proofs.other_digits.is_digit_of.Goals as goal

pub returns : goal.returns
returns c =
    any_from_yields_List (λ zero. is_digit_from zero c.args.c) _ _ _ c.any.ensures.ran (YieldsList-from_slice c.args.zeros.now cc)
    (λ x b q k. search (rules, tests))
