use Rattle.edit_versions.specs.Versions.{version_unit}
use Rattle.edit_versions.proofs.TransitiveFacts.{alike_transitive, has_run}
use Rattle.edit_versions.proofs.laws.comparisons_are_transitive.Goals as goal

pub returns : goal.returns
returns c v w x i j k units units' units'' first second =
    alike_transitive v (version_unit v i) w (version_unit w j) x (version_unit x k) (has_run v i units) (has_run w j units')
    (has_run x k units'') first second
