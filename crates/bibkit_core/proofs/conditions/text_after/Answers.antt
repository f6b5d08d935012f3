use Rattle.std.proofs.Common.{◌∙◌, sym, ap}
use Rattle.std.specs.Option.{option_map}
use Rattle.bib_queries.proofs.ElementFacts.{part_after}
use Rattle.bibkit_core.proofs.conditions.text_after.Goals as goal

pub returns-in-None : goal.returns-in-None
returns-in-None c =
    sym (ap (option_map (λ x. x.1.now)) c.in-None.is)
    ∙ part_after c.args.words.now c.args.message.now c.split_once.result c.split_once.ensures.cases

pub returns-in-Some : goal.returns-in-Some
returns-in-Some c =
    sym (ap (option_map (λ x. x.1.now)) c.in-Some.is)
    ∙ part_after c.args.words.now c.args.message.now c.split_once.result c.split_once.ensures.cases
