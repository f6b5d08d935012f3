use Rattle.std.proofs.Common.{◌≡◌, map, drop}
use Rattle.std.specs.List.{list_any}
use Rattle.bib_syntax.specs.Views.{piece_of}
use Rattle.edit_accents.specs.Recoded.{changes_piece}
use Rattle.edit_accents.proofs.recoding.any_changes.Given as goal

abbrev pub invariant-pieces : goal.invariant-pieces
invariant-pieces l =
    list_any (changes_piece l.form) (map piece_of l.pieces)
    ≡ list_any (changes_piece l.form) (map piece_of (drop l.piece-index l.pieces))
