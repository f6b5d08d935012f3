use Rattle.std.proofs.Common.{◌≡◌, ◌++◌, [], codes, cond, drop, map}
use Rattle.std.specs.List.{AllByRecursion}
use Rattle.std.specs.String.{string_bytes}
use Rattle.edit_entries.specs.Cuts.{IsPieceCut}
use Rattle.edit_format.specs.Delimited.{piece_as_written}
use Rattle.edit_format.specs.Formatted.{value_laid_out}
use Rattle.edit_format.specs.declared.style.Delimiters.TheVariants.{Keep}
use Rattle.edit_strings.specs.Views.{lent_pieces}
use Rattle.edit_strings.proofs.elements.laid_out.Given as goal

-- the text so far and that of the pieces still to append make the text of all pieces
abbrev pub invariant-pieces : goal.invariant-pieces
invariant-pieces l = record {
  written : string_bytes l.new
      ++ value_laid_out (cond l.is_first [] (codes " # ")) (codes " # ")
      (map (piece_as_written Keep l.text) (lent_pieces (drop l.piece-index l.pieces)))
      ≡ value_laid_out [] (codes " # ") (map (piece_as_written Keep l.text) (lent_pieces l.pieces));
  cut : AllByRecursion (IsPieceCut l.text) (lent_pieces (drop l.piece-index l.pieces));
}
