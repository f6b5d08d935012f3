use Rattle.std.proofs.Common.{sym, ◌∙◌}
use Rattle.bib_findings.proofs.NameFacts.{meant_by, unknown_by}
use Rattle.bib_findings.proofs.names.look_up.Goals as goal

pub returns : goal.returns
returns c = (
  sym c.is_foreign.ensures ∙ c.if-is_foreign.false,
  unknown_by c.args.name.now (sym c.is_known_field.ensures ∙ c.if-is_known_field.false) (sym c.is_foreign.ensures ∙ c.if-is_foreign.false),
  meant_by c.args.name.now _ _ (c.deref.ensures ∙ c.in_ok-lowercase.ensures.ok) c.in_ok-meant.ensures,
)
