use Rattle.std.proofs.Common.{◌≡◌, map, take}
use Rattle.std.specs.String.{string_bytes}
use Rattle.bib_syntax.specs.Views.{piece_of}
use Rattle.edit_accents.specs.Pieces.{new_texts}
use Rattle.edit_accents.proofs.recoding.new_texts.Given as goal

abbrev pub invariant-pieces : goal.invariant-pieces
invariant-pieces l = map string_bytes l.texts.items ≡ new_texts l.form (map piece_of (take l.piece-index l.pieces))
