use Rattle.bib_text.proofs.PlaceFacts.{stands_cases, no_char_at_end}
use Rattle.bib_text.proofs.scanner.Scanner.at.Goals as goal

pub returns-in-Some : goal.returns-in-Some
returns-in-Some c = stands_cases _ _ c.in-Some.ensures.1

pub returns-in-None : goal.returns-in-None
returns-in-None c v char = no_char_at_end c.in-None.ensures char
