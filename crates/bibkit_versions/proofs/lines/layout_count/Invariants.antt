use Rattle.std.proofs.Common.{◌≡◌, take}
use Rattle.std.specs.List.{count_by}
use Rattle.edit_changes.specs.Changes.{is_layout}
use Rattle.bibkit_versions.proofs.lines.layout_count.Given as goal

abbrev pub invariant-changes : goal.invariant-changes
invariant-changes l = l.count ≡ count_by is_layout (take l.change-index l.changes)
