use Rattle.std.proofs.Common.{◌≡◌, ◌||◌, List, ℕ, map, take}
use Rattle.bib_syntax.specs.Views.{field_of}
use Rattle.edit_strings.specs.Collected.{definition_names, is_one_in_any_case}
use Rattle.edit_strings.specs.Collecting.{is_taken}
use Rattle.edit_strings.proofs.taken.Taken.take_definitions.Given as goal

abbrev pub invariant-definitions : goal.invariant-definitions
invariant-definitions l = record {
  taken : (other : List ℕ)
      → is_taken l.self other
      ≡
      (is_one_in_any_case (definition_names (map field_of (take l.definition-index l.definitions))) other
      || is_taken l.initial.self other);
}
