use Rattle.std.proofs.Common.{◌≡◌, ℕ, map, take}
use Rattle.std.specs.BTreeSet.{contains}
use Rattle.std.specs.Ordering.{nat_cmp}
use Rattle.bib_syntax.specs.Views.{entry_reading_of}
use Rattle.bibkit_core.specs.Conditions.{begins_one}
use Rattle.bibkit_core.proofs.conditions.entry_starts.Given as goal

-- the set contains the starts of the first entries
abbrev pub invariant-entries : goal.invariant-entries
invariant-entries l =
    (start : ℕ) → contains nat_cmp l.starts start ≡ begins_one (map entry_reading_of (take l.entry-index l.entries)) start
