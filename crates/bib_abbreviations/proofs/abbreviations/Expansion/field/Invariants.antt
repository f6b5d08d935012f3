use Rattle.std.proofs.Common.{map, take, []}
use Rattle.bib_abbreviations.specs.Expanding.{IsSound, known_to}
use Rattle.bib_syntax.specs.Views.{piece_of}
use Rattle.bib_abbreviations.proofs.PieceFacts.{IsRead}
use Rattle.bib_abbreviations.proofs.abbreviations.Expansion.field.Given as goal

abbrev pub invariant-pieces : goal.invariant-pieces
invariant-pieces l = record {
  sound : IsSound (known_to l.self) l.self.is_verbatim l.memo [];
  read : IsRead (known_to l.self) l.self.is_verbatim (map piece_of (take l.piece-index l.field.items)) l.out;
}
