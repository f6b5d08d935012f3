use Rattle.std.proofs.Common.{◌≡◌, drop, map}
use Rattle.bib_syntax.specs.Views.{piece_of}
use Rattle.bib_queries.specs.EqualValues.{are_equal_pieces}
use Rattle.bib_queries.proofs.equal_values.are_equal_pieces.Given as goal

-- the values have the same pieces exactly if their remaining pieces are the same
abbrev pub invariant-pieces : goal.invariant-pieces
invariant-pieces l =
    are_equal_pieces (map piece_of (drop l.index l.one)) (map piece_of (drop l.index l.other))
    ≡ are_equal_pieces (map piece_of l.one) (map piece_of l.other)
