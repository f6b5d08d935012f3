use Rattle.std.proofs.Common.{◌+◌, min, ap, ◌∙◌, Some}
use Rattle.std.specs.Prelude.{unwrap_or}
use Rattle.std.specs.BTreeMap.{get_by_text}
use Rattle.std.specs.String.{string_bytes}
use Rattle.std.proofs.lemmas.Map.Text.{btree_map_updates_text}
use Rattle.bibkit_core.proofs.TableFacts.{met_more}
use Rattle.bibkit_core.proofs.tables.Counts.add.Goals as goal

pub returns : goal.returns
returns c = record {
  adds = λ names was. record {
    held = λ other.
        btree_map_updates_text (string_bytes c.args.name) c.args.self.now.counts c.insert.new.self
        (Some c.saturating_add.result) c.in_ok-insert.ensures.updates other
        ∙ met_more names (string_bytes c.args.name) other c.saturating_add.result (get_by_text c.args.self.now.counts other)
        (c.saturating_add.ensures ∙ ap (λ n. min (n + 1) 18446744073709551615) (c.count-count.ensures
        ∙ ap (λ t. unwrap_or (get_by_text c.args.self.now.counts t) 0) c.as_str.ensures.value
        ∙ ap (λ o. unwrap_or o 0) (was.held (string_bytes c.args.name))))
        (was.held other);
  };
}
