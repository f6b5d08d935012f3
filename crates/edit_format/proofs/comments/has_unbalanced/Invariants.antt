use Rattle.std.proofs.Common.{◌≡◌, drop, map}
use Rattle.std.specs.List.{list_any}
use Rattle.bib_syntax.specs.Views.{field_of, piece_of}
use Rattle.edit_format.specs.Formatted.{has_unbalanced, is_unbalanced}
use Rattle.edit_format.proofs.comments.has_unbalanced.Given as goal

-- the field has an unbalanced literal exactly if one is among the pieces still to visit
abbrev pub invariant-pieces : goal.invariant-pieces
invariant-pieces l = has_unbalanced (field_of l.field) ≡ list_any is_unbalanced (map piece_of (drop l.piece-index l.piece-items))
