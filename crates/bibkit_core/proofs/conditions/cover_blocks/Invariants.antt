use Rattle.std.proofs.Common.{◌≡◌, ◌||◌, ℕ, List, false, get_or, take}
use Rattle.std.specs.BTreeSet.{contains}
use Rattle.std.specs.List.{list_any}
use Rattle.std.specs.Ordering.{nat_cmp}
use Rattle.bib_syntax.specs.Reading.{EntryReading}
use Rattle.bibkit_core.specs.Conditions.{begins_one, is_in_block}
use Rattle.bibkit_core.proofs.conditions.cover_blocks.Given as goal

-- the offsets in the first blocks that begin where an entry does are covered, and no others that weren't covered before
abbrev pub invariant-skipped : goal.invariant-skipped
invariant-skipped l =
    (entries : List EntryReading) → ((start : ℕ) → contains nat_cmp l.starts start ≡ begins_one entries start) → (at : ℕ)
    → get_or l.covered.items at false
    ≡ (get_or l.initial.covered.items at false || list_any (is_in_block entries at) (take l.block-index l.skipped))
