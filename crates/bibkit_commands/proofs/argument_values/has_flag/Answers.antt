use Rattle.std.proofs.Common.{◌∙◌, ap}
use Rattle.std.specs.Prelude.{codes, bytes_eq, false}
use Rattle.std.specs.Option.{option_map_or}
use Rattle.clap.specs.Matches.{found_of}
use Rattle.clap.proofs.WalkLemmas.{one_text-rows}
use Rattle.bibkit_commands.specs.Arguments.{has_flag}
use Rattle.bibkit_commands.proofs.ArgumentFacts.{flag_read}
use Rattle.bibkit_commands.proofs.argument_values.has_flag.Goals as goal

pub returns : goal.returns
unfolding has_flag
returns c =
    c.unwrap_or.ensures ∙ flag_read _ c.get_one.result c.get_one.ensures.none c.get_one.ensures.value
    ∙ ap (λ o. option_map_or (λ text. bytes_eq text (codes "true")) o false) (one_text-rows (found_of c.args.matches.now) c.args.id.now)
