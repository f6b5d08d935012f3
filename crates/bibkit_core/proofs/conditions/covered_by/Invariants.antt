use Rattle.std.proofs.Common.{◌≡◌, ℕ, false, get_or, map, take}
use Rattle.std.specs.List.{list_any}
use Rattle.bib_syntax.specs.Views.{entry_reading_of}
use Rattle.bibkit_core.specs.Conditions.{is_in}
use Rattle.bibkit_core.proofs.conditions.covered_by.Given as goal

abbrev pub invariant-entries : goal.invariant-entries
invariant-entries l =
    (at : ℕ) → get_or l.covered.items at false ≡ list_any (is_in at) (map entry_reading_of (take l.entry-index l.entries))
