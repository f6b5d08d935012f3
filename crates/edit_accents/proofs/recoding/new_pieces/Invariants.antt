use Rattle.std.proofs.Common.{◌≡◌, ◌-◌, ◌≤◌, length, map, take}
use Rattle.std.specs.String.{string_bytes}
use Rattle.bib_syntax.specs.Views.{piece_of}
use Rattle.edit_accents.specs.Pieces.{new_texts}
use Rattle.edit_accents.specs.Recoded.{piece_recoded}
use Rattle.edit_accents.specs.declared.recoding.Form.{Form}
use Rattle.edit_accents.proofs.recoding.new_pieces.Given as goal

abbrev pub invariant-pieces : goal.invariant-pieces
invariant-pieces l = record {
  made : (form : Form) → map string_bytes l.texts ≡ new_texts form (map piece_of l.pieces)
      → map piece_of l.new.items ≡ map (piece_recoded form) (map piece_of (take l.at l.pieces));
  within : l.at ≤ length l.pieces;
}

abbrev pub decreases-pieces : goal.decreases-pieces
decreases-pieces l = length l.pieces - l.at
