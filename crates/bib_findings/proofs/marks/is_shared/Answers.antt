use Rattle.std.proofs.Common.{ap, sym, ◌∙◌, false}
use Rattle.std.specs.Option.{option_to_list, unwrap_or}
use Rattle.std.specs.List.{list_any}
use Rattle.bib_findings.specs.Marks.{is_repeated}
use Rattle.bib_findings.proofs.NotedFacts.{looked_up}
use Rattle.bib_findings.proofs.marks.is_shared.Goals as goal

pub returns-in-Some : goal.returns-in-Some
returns-in-Some c = λ all noted.
    c.unwrap_or.ensures ∙ ap (λ o. unwrap_or o false) (c.copied.ensures ∙ c.get.ensures.value)
    ∙ looked_up c.args.met.now all c.in-Some.mark noted
    ∙ ap (λ o. list_any (is_repeated all) (option_to_list o)) (sym c.in-Some.is)
