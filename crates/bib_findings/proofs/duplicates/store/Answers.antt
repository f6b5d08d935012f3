use Rattle.std.proofs.Common.{arith}
use Rattle.std.specs.BTreeMap.{get_by_text}
use Rattle.std.specs.BTreeMap.Entry.{entry_value, map_with_value}
use Rattle.std.specs.String.{string_bytes}
use Rattle.std.proofs.lemmas.Map.Text.{btree_map_updates_text}
use Rattle.bib_findings.proofs.SeenFacts.{stored_one}
use Rattle.bib_findings.proofs.duplicates.store.Goals as goal

pub returns : goal.returns
returns c =
    let key = string_bytes c.args.identity in
    let kept = c.add_index.new.indices in
    let written = map_with_value c.in_ok-seen.field-0 kept in
    let stored =
    stored_one (get_by_text c.args.seen.now) (get_by_text written) key (entry_value c.in_ok-seen.field-0) c.or_default.result.now kept
    c.args.index c.in_ok-seen.ensures.value c.or_default.ensures.value c.in_ok-add_index.ensures
    (btree_map_updates_text key c.args.seen.now written _ (c.in_ok-seen.ensures.update.0 kept)) in
    λ id. grind (arith, stored id)
