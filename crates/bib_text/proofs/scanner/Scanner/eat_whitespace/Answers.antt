use Rattle.std.proofs.Common.{refl}
use Rattle.bib_text.specs.Places.Run.{stop}
use Rattle.bib_text.proofs.scanner.Scanner.eat_whitespace.Goals as goal

pub returns-then-is_at_visible-clause-longest : goal.returns-then-is_at_visible-clause-longest
returns-then-is_at_visible-clause-longest c = record { run = stop; stops = c.if-is_at_visible.ensures refl }
