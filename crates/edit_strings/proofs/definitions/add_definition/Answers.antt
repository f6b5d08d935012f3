use Rattle.std.proofs.Common.{cond, Some, ap, ◌∙◌}
use Rattle.std.specs.Prelude.{bytes_eq}
use Rattle.std.specs.BTreeMap.{get_by_text}
use Rattle.std.specs.Str.{str_to_ascii_lowercase}
use Rattle.std.proofs.lemmas.Map.Text.{btree_map_updates_text}
use Rattle.edit_strings.proofs.definitions.add_definition.Goals as goal

pub returns : goal.returns
returns c = λ name.
    let lower = str_to_ascii_lowercase name in
    btree_map_updates_text _ c.args.indices.now c.insert.new.self _ c.in_ok-insert.ensures.updates lower
    ∙ ap (λ k. cond (bytes_eq k lower) (Some c.args.index) (get_by_text c.args.indices.now lower)) c.in_ok-to_ascii_lowercase.ensures.ok
