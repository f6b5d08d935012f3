use Rattle.std.proofs.Common.{lit<}
use Rattle.bibkit_commands.proofs.EditsAskedFacts.{pair_cut}
use Rattle.bibkit_commands.proofs.edit_arguments.pair_of.Goals as goal

pub returns : goal.returns
returns c = pair_cut c.args.word.now c.split_once.result (c.split_once.ensures.byte (lit< tt) (λ w o h. h))
