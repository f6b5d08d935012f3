use Rattle.std.proofs.Common.{rules}
use Rattle.bib_typed.proofs.FieldFacts.{set_is_read}
use Rattle.bib_typed.proofs.setting.set_as.Goals as goal

pub returns-clause-kept : goal.returns-clause-kept
returns-clause-kept g c =
    set_is_read g.T.Type g.met.T.Type.survives (g.T.Type.meaning c.args.value.now) c.args.fields.now _ _ (search rules)
