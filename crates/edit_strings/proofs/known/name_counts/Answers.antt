use Rattle.std.proofs.Common.{◌+◌, List, cond, Some, map, take, sym, ap, ◌∙◌}
use Rattle.std.specs.Prelude.{bytes_eq, count_by}
use Rattle.std.specs.BTreeMap.{get_by_text}
use Rattle.std.specs.Option.{option_map_or}
use Rattle.std.specs.Str.{str_to_ascii_lowercase}
use Rattle.std.proofs.lemmas.Map.Text.{btree_map_updates_text}
use Rattle.bib_syntax.specs.Reading.{FieldReading}
use Rattle.bib_syntax.specs.Views.{field_of}
use Rattle.edit_entries.specs.Documents.{has_name}
use Rattle.edit_strings.specs.Collecting.{name_count_in}
use Rattle.edit_strings.proofs.KnownFacts.{counted_name}
use Rattle.edit_strings.proofs.TextFacts.{one_more}
use Rattle.edit_strings.proofs.known.name_counts.Goals as goal

pub definitions-preserved : goal.definitions-preserved
definitions-preserved c = λ name.
    let f : FieldReading = field_of c.definition-item.result in
    let so_far : List FieldReading = map field_of (take c.definitions.definition-index c.args.definitions.now) in
    let lower = str_to_ascii_lowercase name in
    let key = c.in_ok-lowercase.ensures.ok in
    ap (λ o. option_map_or (λ n. n) o 0)
    (btree_map_updates_text _ c.definitions.counts c.insert.new.self _ c.in_ok-insert.ensures.updates lower
    ∙ ap (λ k. cond (bytes_eq k lower) (Some (c.name_count-count.result + 1)) (get_by_text c.definitions.counts lower)) key)
    ∙ counted_name name so_far f _ c.name_count-count.result
    (c.name_count-count.ensures ∙ ap (name_count_in c.definitions.counts) (c.as_str.ensures.value ∙ key)
    ∙ c.definitions.invariant f.name.text) (c.definitions.invariant name)
    ∙ ap (count_by (has_name name))
    (sym
    (one_more field_of c.args.definitions.now c.definitions.definition-index c.definition-item.result c.definitions-test.true
    c.definition-item.is))
