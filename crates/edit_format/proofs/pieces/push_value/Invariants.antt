use Rattle.std.proofs.Common.{◌≡◌, ◌++◌, codes, cond, drop, map}
use Rattle.std.specs.List.{AllByRecursion}
use Rattle.std.specs.String.{string_bytes}
use Rattle.bib_syntax.specs.Views.{piece_of}
use Rattle.edit_entries.specs.Cuts.{IsPieceCut}
use Rattle.edit_format.specs.Delimited.{piece_as_written}
use Rattle.edit_format.specs.Formatted.{value_laid_out}
use Rattle.edit_format.proofs.pieces.push_value.Given as goal

-- the text so far and that of the pieces still to append make the text of all pieces
abbrev pub invariant-pieces : goal.invariant-pieces
invariant-pieces l = record {
  written : string_bytes l.new
      ++ value_laid_out (cond l.is_first (codes " = ") l.next) l.next
      (map (piece_as_written l.layout.style.delimiters l.layout.text.now)
      (map piece_of (drop l.piece-index l.pieces)))
      ≡ string_bytes l.initial.new
      ++ value_laid_out (codes " = ") l.next
      (map (piece_as_written l.layout.style.delimiters l.layout.text.now) (map piece_of l.pieces));
  cut : AllByRecursion (IsPieceCut l.layout.text.now) (map piece_of (drop l.piece-index l.pieces));
}
