use Rattle.std.proofs.lemmas.Str.{chars-nil}
use Rattle.bib_contents.specs.declared.units.Argument.TheVariants as command_text
use Rattle.bib_contents.proofs.TakingFacts.{command_is}
use Rattle.bib_contents.proofs.writing.write_unit.Goals as goal

pub returns-in_ok-write_command-in-Empty : goal.returns-in_ok-write_command-in-Empty
returns-in_ok-write_command-in-Empty c =
    rw (command_is command_text.Empty c.in-Command.is c.in-Empty.is)
    (rw chars-nil at c.in_ok-write_command-in-Empty.ensures)
