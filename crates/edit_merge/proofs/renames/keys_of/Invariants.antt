use Rattle.std.proofs.Common.{◌≡◌, ℕ, List, map, take}
use Rattle.edit_merge.specs.RenameViews.{replacement_in, rename_view}
use Rattle.edit_merge.specs.Renames.{new_key}
use Rattle.edit_merge.proofs.renames.keys_of.Given as goal

-- the map has the new keys by the renames so far
abbrev pub invariant-renames : goal.invariant-renames
invariant-renames l = (key : List ℕ) → replacement_in l.keys key ≡ new_key (map rename_view (take l.rename-index l.renames)) key
