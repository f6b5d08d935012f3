use Rattle.std.proofs.Common.{Some}
use Rattle.std.specs.BTreeMap.{get_by_text}
use Rattle.std.specs.String.{string_bytes}
use Rattle.std.proofs.lemmas.Map.Text.{btree_map_updates_text}
use Rattle.bib_findings.proofs.DefinitionFacts.{lasts_more}
use Rattle.bib_findings.proofs.definition_cases.store_last.Goals as goal

pub returns : goal.returns
returns c = λ earlier are.
    let stored = string_bytes c.in_ok-name.name in
    lasts_more (get_by_text c.args.lasts.now) (get_by_text c.insert.new.self) earlier c.args.definition stored c.in_ok-name.ensures.ok are
    (btree_map_updates_text stored c.args.lasts.now c.insert.new.self (Some c.args.definition) c.in_ok-insert.ensures.updates)
