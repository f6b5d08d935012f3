use Rattle.std.proofs.Common.{◌∙◌, ap, false}
use Rattle.std.specs.List.{list_all}
use Rattle.std.specs.Option.{option_map_or}
use Rattle.json.specs.Value.{value_view}
use Rattle.bib_from_csl.specs.GivenNames.{is_object}
use Rattle.bib_from_csl.proofs.ObjectFacts.{all_mapped}
use Rattle.bib_from_csl.proofs.names.are_objects.Goals as goal

pub returns-in-Some : goal.returns-in-Some
returns-in-Some c =
    c.all_objects.ensures ∙ all_mapped is_object value_view c.in-Some.elements.now
    ∙ ap (λ o. option_map_or (list_all is_object) o false) c.in-Some.ensures
