use Rattle.std.proofs.Common.{ap, sym, ◌∙◌, subst}
use Rattle.std.specs.Prelude.{is_some}
use Rattle.bib_findings.specs.Met.{IsFieldName}
use Rattle.bib_findings.proofs.OnceFacts.{foreign_once, known_once, unknown_once}
use Rattle.bib_findings.proofs.once.is_field_once.Goals as goal

pub returns-in-Foreign-clause-is : goal.returns-in-Foreign-clause-is
returns-in-Foreign-clause-is c kind known =
    foreign_once kind c.args.name.now (subst (IsFieldName c.args.name.now) c.in-Foreign.is c.in_ok-meet.ensures.is)

pub returns-in-Known-clause-is : goal.returns-in-Known-clause-is
returns-in-Known-clause-is c kind known =
    let is = subst (IsFieldName c.args.name.now) c.in-Known.is c.in_ok-meet.ensures.is in
    known_once kind c.args.name.now is.0 is.1

pub returns-in-Unknown-clause-is : goal.returns-in-Unknown-clause-is
returns-in-Unknown-clause-is c kind known =
    let is = subst (IsFieldName c.args.name.now) c.in-Unknown.is c.in_ok-meet.ensures.is in
    c.is_unknown_once.ensures
    ∙ unknown_once kind c.args.name.now c.args.has_known_type _ known is.0 is.1 (ap is_some (sym is.2))
