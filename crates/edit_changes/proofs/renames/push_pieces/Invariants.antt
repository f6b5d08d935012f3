use Rattle.std.proofs.Common.{◌≡◌, ◌++◌, drop, map}
use Rattle.std.specs.List.{flat_map}
use Rattle.bib_syntax.specs.Views.{piece_of}
use Rattle.edit_changes.specs.Renames.{piece_content}
use Rattle.edit_changes.proofs.renames.push_pieces.Given as goal

-- the content so far, followed by the remaining pieces, is the old content followed by all pieces
abbrev pub invariant-pieces : goal.invariant-pieces
invariant-pieces l =
    l.content ++ flat_map piece_content (map piece_of (drop l.piece-index l.pieces))
    ≡ l.initial.content ++ flat_map piece_content (map piece_of l.pieces)
