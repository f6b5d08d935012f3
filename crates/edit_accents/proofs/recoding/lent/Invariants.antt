use Rattle.std.proofs.Common.{◌≡◌, map, take}
use Rattle.bib_syntax.specs.Views.{piece_of}
use Rattle.edit_strings.specs.Views.{lent_pieces}
use Rattle.edit_accents.proofs.recoding.lent.Given as goal

abbrev pub invariant-pieces : goal.invariant-pieces
invariant-pieces l = lent_pieces l.lent.items ≡ map piece_of (take l.piece-index l.pieces)
