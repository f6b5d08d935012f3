use Rattle.std.proofs.Common.{[], ap, sym, ◌∙◌}
use Rattle.std.specs.BTreeMap.{get_by_text}
use Rattle.std.specs.Option.{option_map_or}
use Rattle.std.specs.Str.{str_to_ascii_lowercase}
use Rattle.bib_findings.specs.DefinitionCases.{definition_note}
use Rattle.bib_findings.specs.LastDefinitions.{read_definition}
use Rattle.bib_findings.proofs.definition_cases.abbreviation_note.Goals as goal

pub returns-in_default : goal.returns-in_default
returns-in_default c = λ definitions are.
    let lasts = get_by_text c.args.lasts.now in
    let note = definition_note c.args.at in
    let found = c.copied.ensures ∙ c.get.ensures.value ∙ ap lasts (c.as_str.ensures.value ∙ c.in_ok-lowercase.ensures.ok) in
    c.new.ensures.bytes
    ∙ ap (λ last. option_map_or note (read_definition last) []) (sym (sym found ∙ c.in_default.is))
    ∙ ap (λ last. option_map_or note last []) (are (str_to_ascii_lowercase c.args.name.now))

pub returns : goal.returns
returns c = λ definitions are.
    let lasts = get_by_text c.args.lasts.now in
    let note = definition_note c.args.at in
    let found = c.copied.ensures ∙ c.get.ensures.value ∙ ap lasts (c.as_str.ensures.value ∙ c.in_ok-lowercase.ensures.ok) in
    c.in_ok-note.ensures
    ∙ ap (λ last. option_map_or note (read_definition last) []) (sym (sym found ∙ c.in-Some.is))
    ∙ ap (λ last. option_map_or note last []) (are (str_to_ascii_lowercase c.args.name.now))
