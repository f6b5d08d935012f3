use Rattle.std.proofs.Common.{◌≡◌, take, map}
use Rattle.std.specs.List.{flat_map}
use Rattle.bib_syntax.specs.Views.{piece_of}
use Rattle.edit_orders.specs.Fields.{plain_piece}
use Rattle.edit_orders.proofs.fields.plain_contents.Given as goal

abbrev pub invariant-pieces : goal.invariant-pieces
invariant-pieces l = l.text ≡ flat_map plain_piece (map piece_of (take l.piece-index l.pieces))
