use Rattle.std.proofs.Common.{◌≡◌}
use Rattle.bibkit_core.specs.OwnNames.{without_own}
use Rattle.bibkit_core.proofs.own_names.without_own.Given as goal

abbrev pub invariant-found : goal.invariant-found
invariant-found l = l.kept.items ≡ without_own l.own l.yielded
