use Rattle.std.proofs.Common.{◌∙◌, ap, map, Some}
use Rattle.clap.specs.Matches.{found_of}
use Rattle.clap.proofs.WalkLemmas.{raw_values-rows}
use Rattle.bibkit_commands.specs.Arguments.{given_values}
use Rattle.bibkit_commands.proofs.argument_values.given_texts.Goals as goal

pub returns-in_ok-from_slice-in-Some : goal.returns-in_ok-from_slice-in-Some
unfolding given_values
returns-in_ok-from_slice-in-Some c =
    ap (λ items. Some (map (λ text. text.now) items)) c.in_ok-from_slice-in-Some.ensures.items ∙ c.in-Some.ensures
    ∙ raw_values-rows (found_of c.args.matches.now) c.args.id.now

pub returns-in-None : goal.returns-in-None
unfolding given_values
returns-in-None c = c.in-None.ensures ∙ raw_values-rows (found_of c.args.matches.now) c.args.id.now
