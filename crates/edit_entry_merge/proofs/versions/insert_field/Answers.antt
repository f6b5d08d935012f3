use Rattle.std.proofs.Common.{◌∙◌, sym, Some}
use Rattle.std.specs.String.{string_bytes}
use Rattle.std.proofs.lemmas.Map.Text.{btree_map_updates_text}
use Rattle.edit_entry_merge.proofs.NameFacts.{first_added}
use Rattle.edit_entry_merge.proofs.versions.insert_field.Goals as goal

pub returns-clause-added : goal.returns-clause-added
returns-clause-added c =
    first_added c.args.fields.now c.insert.new.self c.args.field (string_bytes c.in_ok-name.name) c.in_ok-name.ensures.ok
    (sym c.contains_key.ensures ∙ c.if-contains_key.false)
    (btree_map_updates_text (string_bytes c.in_ok-name.name) c.args.fields.now c.insert.new.self (Some c.args.field)
    c.in_ok-insert.ensures.updates)
