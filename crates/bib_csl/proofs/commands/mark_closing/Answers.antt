use Rattle.std.proofs.Common.{rules}
use lib.Utf8.{encode}
use Rattle.bib_csl.specs.Markup.{mark_closing}
use Rattle.bib_csl.proofs.commands.mark_closing.Goals as goal

pub returns-then-quotes_argument : goal.returns-then-quotes_argument
unfolding mark_closing encode
returns-then-quotes_argument c = search rules
