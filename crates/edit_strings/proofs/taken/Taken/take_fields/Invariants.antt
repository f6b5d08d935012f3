use Rattle.std.proofs.Common.{◌≡◌, ◌||◌, List, ℕ, map, take}
use Rattle.bib_syntax.specs.Views.{field_of}
use Rattle.edit_strings.specs.Collected.{is_one_in_any_case, used_names}
use Rattle.edit_strings.specs.Collecting.{is_taken}
use Rattle.edit_strings.proofs.taken.Taken.take_fields.Given as goal

abbrev pub invariant-fields : goal.invariant-fields
invariant-fields l = record {
  taken : (other : List ℕ)
      → is_taken l.self other
      ≡
      (is_one_in_any_case (used_names (map field_of (take l.field-index l.fields))) other
      || is_taken l.initial.self other);
}
