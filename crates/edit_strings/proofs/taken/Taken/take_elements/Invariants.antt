use Rattle.std.proofs.Common.{◌≡◌, ◌||◌, List, ℕ, map, take}
use Rattle.bib_syntax.specs.Views.{piece_of}
use Rattle.edit_strings.specs.Collected.{element_names, is_one_in_any_case}
use Rattle.edit_strings.specs.Collecting.{is_taken}
use Rattle.edit_strings.proofs.taken.Taken.take_elements.Given as goal

abbrev pub invariant-pieces : goal.invariant-pieces
invariant-pieces l = record {
  taken : (other : List ℕ)
      → is_taken l.self other
      ≡
      (is_one_in_any_case (element_names (map piece_of (take l.piece-index l.pieces))) other
      || is_taken l.initial.self other);
}
