use Rattle.std.proofs.Common.{◌≡◌}
use Rattle.std.specs.List.{flat_map}
use Rattle.std.specs.String.{string_bytes}
use Rattle.bibkit_versions.specs.Labels.{printable_character}
use Rattle.bibkit_versions.proofs.labels.printable.Given as goal

abbrev pub invariant-characters : goal.invariant-characters
invariant-characters l = string_bytes l.printed ≡ flat_map printable_character l.yielded
