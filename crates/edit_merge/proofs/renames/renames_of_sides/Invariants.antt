use Rattle.std.proofs.Common.{◌≡◌, ◌++◌, drop, map}
use Rattle.std.specs.List.{enumerate_from, filter_map}
use Rattle.edit_merge.specs.RenameViews.{rename_view}
use Rattle.edit_merge.specs.Renames.{rename_at, renames_of_sides}
use Rattle.edit_merge.specs.Views.{versions_of}
use Rattle.edit_merge.proofs.renames.renames_of_sides.Given as goal

-- the renames so far, and those of the remaining units of the base, are all renames
abbrev pub invariant-names : goal.invariant-names
invariant-names l =
    map rename_view l.renames.items
    ++ filter_map (λ x. rename_at (versions_of l.versions) x.0) (enumerate_from l.index (drop l.index l.names))
    ≡ renames_of_sides (versions_of l.versions)
