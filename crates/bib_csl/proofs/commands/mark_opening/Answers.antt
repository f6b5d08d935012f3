use Rattle.std.proofs.Common.{rules}
use lib.Utf8.{encode}
use Rattle.bib_csl.specs.Markup.{mark_opening}
use Rattle.bib_csl.proofs.commands.mark_opening.Goals as goal

pub returns-then-quotes_argument : goal.returns-then-quotes_argument
unfolding mark_opening encode
returns-then-quotes_argument c = search rules
