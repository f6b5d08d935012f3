use Rattle.bib_syntax.proofs.ErrorPlaceFacts.{reported_syntax}
use Rattle.biblatex.specs.Headline.{IsErrorOf}
use Rattle.biblatex.proofs.KindFacts.{file_not_malformed, syntax_not_malformed}
use Rattle.biblatex.proofs.laws.no_command_is_malformed.Goals as goal

pub returns : goal.returns
returns c text e (IsErrorOf.syntax reported unread) is = syntax_not_malformed e.kind (reported_syntax text e reported).kind is
returns c text e (IsErrorOf.first reading first) is = file_not_malformed first is
