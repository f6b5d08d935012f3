use Rattle.std.proofs.Common.{◌∙◌, ap}
use Rattle.bib_text.specs.Enums.{value_named}
use Rattle.bib_contents.specs.Commands.{symbols}
use Rattle.bib_contents.proofs.CommandFacts.{symbols_are, named_encoded}
use Rattle.bib_contents.proofs.commands.symbol.Goals as goal

pub returns : goal.returns
returns c =
    c.find_text.ensures ∙ ap (λ rows. value_named rows c.args.name.now) symbols_are
    ∙ named_encoded symbols c.args.name.now c.utf8.name
