use Rattle.std.proofs.Common.{◌≡◌, ◌||◌, List, ℕ, map, take}
use Rattle.std.specs.List.{flat_map}
use Rattle.bib_syntax.specs.Views.{entry_reading_of}
use Rattle.edit_strings.specs.Collected.{is_one_in_any_case, used_names}
use Rattle.edit_strings.specs.Collecting.{is_taken}
use Rattle.edit_strings.proofs.taken.Taken.take_entries.Given as goal

abbrev pub invariant-entries : goal.invariant-entries
invariant-entries l = record {
  taken : (other : List ℕ)
      → is_taken l.self other
      ≡
      (is_one_in_any_case
      (flat_map (λ e. used_names e.fields) (map entry_reading_of (take l.entry-index l.entries))) other
      || is_taken l.initial.self other);
}
