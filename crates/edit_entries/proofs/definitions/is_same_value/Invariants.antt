use Rattle.std.proofs.Common.{map, take}
use Rattle.bib_syntax.specs.Views.{piece_of}
use Rattle.edit_entries.specs.Definitions.{ArePiecesSame}
use Rattle.edit_entries.proofs.definitions.is_same_value.Given as goal

-- the pieces so far are the same
abbrev pub invariant-pieces : goal.invariant-pieces
invariant-pieces l = ArePiecesSame (map piece_of (take l.index l.one)) (map piece_of (take l.index l.other))
