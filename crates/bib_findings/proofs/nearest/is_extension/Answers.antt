use Rattle.std.proofs.Common.{◌∙◌}
use Rattle.std.proofs.lemmas.Str.Pattern.{ends_text}
use Rattle.bib_findings.proofs.NearestFacts.{extension_none, extension_some}
use Rattle.bib_findings.proofs.nearest.is_extension.Goals as goal

pub returns-in-Some : goal.returns-in-Some
returns-in-Some c =
    let stripped = c.in-Some.ensures.cases in
    c.ne.ensures ∙ extension_some c.args.name.now c.args.known.now c.in-Some.rest.now stripped.0 stripped.1 stripped.2

pub returns-in-None : goal.returns-in-None
returns-in-None c =
    ends_text c.ends_with.result c.args.known.now c.args.name.now c.ends_with.ensures.cases
    ∙ extension_none c.args.name.now c.args.known.now c.in-None.ensures.cases
