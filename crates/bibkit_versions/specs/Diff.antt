-- Meaning: words of public contracts.
-- The output of `diff`.
use Rattle.std.specs.Prelude.{◌==◌, ℕ, Bool, not, List, count_by, length}
use Rattle.edit_changes.specs.Changes.{is_layout}
use Rattle.edit_changes.specs.declared.changes.Change.{Change}
use Rattle.edit_versions.specs.Versions.{VersionReading}
use Rattle.bibkit_versions.specs.Lines.{changes_text}
use Rattle.bibkit_versions.specs.Objects.{changes_array}
use Rattle.bibkit_versions.specs.declared.diff.Format.{Format}
use Rattle.bibkit_versions.specs.declared.diff.Format.TheVariants.{Text, Json}

-- the text for changes of a file with this name, in this format
abbrev pub output_by : Format → List ℕ → VersionReading → VersionReading → List Change → List ℕ
output_by Text name v w changes = changes_text name v w changes
output_by Json name v w changes = changes_array v w changes

-- whether there is a change other than of the layout: not all changes are of the layout only
abbrev pub has_change : List Change → Bool
has_change changes = not (count_by is_layout changes == length changes)
