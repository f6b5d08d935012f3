use Rattle.std.proofs.Common.{◌∙◌}
use Rattle.bib_findings.proofs.TypeFacts.{meant_by}
use Rattle.bib_findings.proofs.types.meant_type.Goals as goal

pub returns : goal.returns
returns c = meant_by c.args.name.now _ _ (c.deref.ensures ∙ c.in_ok-lowercase.ensures.ok) c.in_ok-meant.ensures
