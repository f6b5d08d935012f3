use Rattle.std.proofs.Common.{◌∙◌, ap, sym}
use Rattle.std.specs.Prelude.{is_some}
use Rattle.std.specs.BTreeMap.{get_by_text}
use Rattle.std.specs.Str.{str_to_ascii_lowercase}
use Rattle.std.specs.String.{string_bytes}
use Rattle.std.proofs.lemmas.Map.Text.{btree_map_updates_text}
use Rattle.edit_entries.proofs.IndexFacts.{gets_word_index, has_word_index}
use Rattle.edit_entries.proofs.new_keys.give_lowercase_index.Goals as goal

pub returns-then-contains_key : goal.returns-then-contains_key
returns-then-contains_key c = λ other.
    has_word_index c.args.indices.now (string_bytes c.in_ok-lower.lower) c.args.name.now other c.args.index
    c.in_ok-lower.ensures.ok
    (ap (λ l. is_some (get_by_text c.args.indices.now l)) (sym c.as_str.ensures.value)
    ∙ sym c.contains_key.ensures ∙ c.if-contains_key.true)

pub returns : goal.returns
returns c = λ other.
    gets_word_index c.args.indices.now c.insert.new.self (string_bytes c.in_ok-lower.lower) c.args.name.now other c.args.index
    c.in_ok-lower.ensures.ok
    (ap (λ l. is_some (get_by_text c.args.indices.now l)) (sym c.as_str.ensures.value)
    ∙ sym c.contains_key.ensures ∙ c.if-contains_key.false)
    (btree_map_updates_text (string_bytes c.in_ok-lower.lower) c.args.indices.now c.insert.new.self _ c.in_ok-insert.ensures.updates
    (str_to_ascii_lowercase other))
