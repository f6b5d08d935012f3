use Rattle.std.proofs.Common.{◌≡◌, subst}
use Rattle.bib_findings.specs.Names.{is_in_model}
use Rattle.bib_findings.proofs.names.is_known_field.Goals as goal

pub returns : goal.returns
returns c = subst (λ name. c.is_in_model.result ≡ is_in_model name) c.annotated_name.ensures c.is_in_model.ensures
