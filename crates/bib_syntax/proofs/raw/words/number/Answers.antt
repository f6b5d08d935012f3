use Rattle.bib_text.proofs.PlaceFacts.{boundary_ahead}
use Rattle.bib_syntax.proofs.WordFacts.{ahead_number}
use Rattle.bib_syntax.proofs.ReadingFacts.{not_after, part_from}
use Rattle.bib_syntax.proofs.raw.words.number.Goals as goal

pub from-requires-clause-boundary : goal.from-requires-clause-boundary
from-requires-clause-boundary c = boundary_ahead _ (ahead_number c.in_ok-digits.ensures.found) c.cursor-start.ensures.boundary

pub from-requires-clause-following : goal.from-requires-clause-following
from-requires-clause-following c = not_after _ (ahead_number c.in_ok-digits.ensures.found) c.cursor-start.ensures.place

pub returns-clause-reading : goal.returns-clause-reading
returns-clause-reading c =
    rw c.new.ensures
    (part_from _ _ _ (ahead_number c.in_ok-digits.ensures.found) c.cursor-start.ensures.place c.cursor.ensures.place
    c.from.ensures)
