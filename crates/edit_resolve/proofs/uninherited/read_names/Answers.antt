use Rattle.std.proofs.Common.{◌∙◌, true}
use Rattle.std.specs.BTreeSet.{contains_text}
use Rattle.std.specs.String.{string_bytes}
use Rattle.std.proofs.lemmas.Map.Text.{btree_set_updates_text}
use Rattle.edit_resolve.proofs.UninheritedFacts.{read_more}
use Rattle.edit_resolve.proofs.uninherited.read_names.Goals as goal

pub fields-preserved : goal.fields-preserved
fields-preserved c = λ name.
    let low = string_bytes c.in_ok-read_name.field-0 in
    btree_set_updates_text low c.fields.names c.insert.new.self true c.in_ok-insert.ensures.updates name
    ∙ read_more c.args.fields.now c.fields.field-index c.field-item.result low name (contains_text c.fields.names name) c.fields-test.true
    c.field-item.is c.in_ok-read_name.ensures (c.fields.invariant name)
