use Rattle.std.proofs.Common.{◌≡◌, take}
use Rattle.std.specs.String.{string_bytes}
use Rattle.edit_strings.specs.Left.{expansion_text}
use Rattle.edit_strings.specs.Views.{lent_pieces}
use Rattle.edit_strings.proofs.left_references.expansion_text.Given as goal

abbrev pub invariant-pieces : goal.invariant-pieces
invariant-pieces l = string_bytes l.text ≡ expansion_text (lent_pieces (take l.piece-index l.pieces))
