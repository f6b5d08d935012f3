use Rattle.std.proofs.Common.{◌≡◌, map, take}
use Rattle.bib_syntax.specs.Views.{piece_of}
use Rattle.edit_strings.specs.Tables.{index_by_lowercase, indexed_of, with_index}
use Rattle.edit_strings.proofs.written.with_indices.Given as goal

abbrev pub invariant-pieces : goal.invariant-pieces
invariant-pieces l =
    map indexed_of l.found.items ≡ map (with_index (index_by_lowercase l.indices)) (map piece_of (take l.piece-index l.pieces))
