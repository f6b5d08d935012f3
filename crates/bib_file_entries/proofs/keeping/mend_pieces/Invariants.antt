use Rattle.bib_abbreviations.specs.Abbreviations.{given_by}
use Rattle.bib_file_entries.proofs.MendingFacts.{MendedSoFar}
use Rattle.bib_file_entries.proofs.keeping.mend_pieces.Given as goal

-- the undefined abbreviations in the pieces so far were replaced
abbrev pub invariant-pieces : goal.invariant-pieces
invariant-pieces l = MendedSoFar (given_by l.reader) l.fn.field l.piece-index l.pieces.items l.fn.errors.items l.errors.items
