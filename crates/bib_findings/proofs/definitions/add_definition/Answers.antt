use Rattle.std.proofs.Common.{◌++◌, Some, ap, ◌∙◌}
use Rattle.std.specs.BTreeMap.{get_by_text}
use Rattle.std.specs.String.{string_bytes}
use Rattle.std.proofs.lemmas.Map.Text.{btree_map_updates_text}
use Rattle.bib_syntax.specs.Views.{field_of}
use Rattle.bib_findings.specs.Counted.{lowercase_name}
use Rattle.bib_findings.specs.Definitions.{finding_after}
use Rattle.bib_findings.specs.LastDefinitions.{read_definition}
use Rattle.bib_findings.proofs.DefinitionFacts.{lasts_more}
use Rattle.bib_findings.proofs.definitions.add_definition.Goals as goal

pub returns-clause-lasts : goal.returns-clause-lasts
returns-clause-lasts c = λ earlier are.
    let stored = string_bytes c.in_ok-name.name in
    lasts_more (get_by_text c.args.lasts.now) (get_by_text c.insert.new.self) earlier c.args.definition stored c.in_ok-name.ensures.ok are
    (btree_map_updates_text stored c.args.lasts.now c.insert.new.self (Some c.args.definition) c.in_ok-insert.ensures.updates)

pub returns-clause-added : goal.returns-clause-added
returns-clause-added c = λ earlier are.
    let one = field_of c.args.definition.now in
    let old = c.args.found.now.items in
    c.in_ok-add_if_changed.ensures
    ∙ ap (λ last. old ++ finding_after last one)
    (ap read_definition
    (c.copied-last.ensures ∙ c.get.ensures.value ∙ ap (get_by_text c.args.lasts.now) (c.as_str.ensures.value ∙ c.in_ok-name.ensures.ok))
    ∙ are (lowercase_name one))
