use Rattle.std.proofs.Common.{sym}
use Rattle.bib_text.proofs.EnumFacts.{named_none}
use Rattle.bib_inheritance.specs.Inherited.{same_meaning}
use Rattle.bib_inheritance.proofs.offers.same_meaning.Goals as goal

pub returns-in_default : goal.returns-in_default
returns-in_default c =
    sym
    (named_none same_meaning c.args.name.now (
      c.in_default.not-address,
      (c.in_default.not-institution, (c.in_default.not-school, (c.in_default.not-journaltitle, tt))),
    ))
