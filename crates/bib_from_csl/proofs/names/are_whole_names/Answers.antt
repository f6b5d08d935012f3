use Rattle.std.proofs.Common.{◌∙◌, ap, true}
use Rattle.std.specs.List.{list_all}
use Rattle.std.specs.Option.{option_map_or}
use Rattle.json.specs.Value.{value_view}
use Rattle.bib_from_csl.specs.GivenNames.{says_name_only}
use Rattle.bib_from_csl.proofs.ObjectFacts.{all_mapped}
use Rattle.bib_from_csl.proofs.names.are_whole_names.Goals as goal

pub returns-in-Some : goal.returns-in-Some
unfolding Rattle.bib_from_csl.specs.GivenNames.are_whole_names
returns-in-Some c =
    c.all_whole_names.ensures ∙ all_mapped says_name_only value_view c.in-Some.elements.now
    ∙ ap (λ o. option_map_or (list_all says_name_only) o true) c.in-Some.ensures
