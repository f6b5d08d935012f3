use Rattle.std.specs.BTreeSet.{contains_text}
use Rattle.edit_resolve.specs.Uninherited.{is_lacking}
use Rattle.edit_resolve.proofs.UninheritedFacts.{names_more}
use Rattle.edit_resolve.proofs.uninherited.lacking_names.Goals as goal

pub fields-preserved : goal.fields-preserved
fields-preserved c =
    names_more (is_lacking c.args.link c.args.parent.now c.args.child.now.entry_type.now (contains_text c.args.child.now.names))
    c.args.fields.now c.fields.field-index c.field-item.result c.fields-test.true c.field-item.is _ _ c.fields.invariant
    c.in_ok-push_lacking.ensures
