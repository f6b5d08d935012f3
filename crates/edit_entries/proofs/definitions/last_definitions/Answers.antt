use Rattle.std.proofs.Common.{◌∙◌, cond, Some, sym, ap}
use Rattle.std.specs.Prelude.{bytes_eq}
use Rattle.std.specs.BTreeMap.{get_by_text}
use Rattle.std.specs.Str.{str_to_ascii_lowercase}
use Rattle.std.specs.String.{string_bytes}
use Rattle.std.proofs.lemmas.Map.Text.{btree_map_updates_text}
use Rattle.bib_syntax.specs.Grammar.{is_word}
use Rattle.bib_syntax.specs.Views.{field_of}
use Rattle.edit_entries.specs.Documents.{has_name}
use Rattle.edit_entries.proofs.PositionFacts.{last_step}
use Rattle.edit_entries.proofs.definitions.last_definitions.Goals as goal

pub definitions-preserved : goal.definitions-preserved
definitions-preserved c = λ name.
    let i = c.definitions.index in
    let own = c.index-definitions-index.result.key.v.now in
    let low = str_to_ascii_lowercase name in
    btree_map_updates_text (string_bytes c.in_ok-to_ascii_lowercase.field-0) c.definitions.last c.insert.new.self (Some i)
    c.in_ok-insert.ensures.updates low
    ∙ ap (λ l. cond (bytes_eq l low) (Some i) (get_by_text c.definitions.last low)) c.in_ok-to_ascii_lowercase.ensures.ok
    ∙ ap (cond (is_word own name) (Some i)) (c.definitions.invariant name)
    ∙ sym
    (last_step field_of (has_name name) c.args.definitions.now i c.index-definitions-index.result
    c.definitions-test.true c.index-definitions-index.is)
