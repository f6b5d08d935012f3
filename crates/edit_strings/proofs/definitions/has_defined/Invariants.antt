use Rattle.std.proofs.Common.{◌≡◌, drop, map}
use Rattle.bib_syntax.specs.Views.{piece_of}
use Rattle.edit_strings.specs.Expanded.{has_defined}
use Rattle.edit_strings.specs.Tables.{index_by_lowercase}
use Rattle.edit_strings.proofs.definitions.has_defined.Given as goal

-- the result for all pieces is that for the pieces still to visit
abbrev pub invariant-pieces : goal.invariant-pieces
invariant-pieces l =
    has_defined (index_by_lowercase l.indices) (map piece_of l.pieces)
    ≡ has_defined (index_by_lowercase l.indices) (map piece_of (drop l.piece-index l.pieces))
