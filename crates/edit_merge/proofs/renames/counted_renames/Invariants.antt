use Rattle.std.proofs.Common.{◌≡◌, ◌++◌, drop, map}
use Rattle.std.specs.Prelude.{filter}
use Rattle.edit_merge.specs.RenameViews.{AreKeyCounts, rename_view}
use Rattle.edit_merge.specs.Renames.{Documents, have_one}
use Rattle.edit_merge.proofs.renames.counted_renames.Given as goal

-- the renames so far, and the counted ones of those that remain, are all counted renames
abbrev pub invariant-renames : goal.invariant-renames
invariant-renames l =
    (ds : Documents) → AreKeyCounts ds l.counts
    → map rename_view l.found.items ++ filter (have_one ds) (map rename_view (drop l.rename-index l.renames))
    ≡ filter (have_one ds) (map rename_view l.renames)
