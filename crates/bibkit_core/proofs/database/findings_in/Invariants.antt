use Rattle.std.proofs.Common.{◌≡◌, map, take}
use Rattle.bibkit_core.specs.Database.{finding_in}
use Rattle.bibkit_core.proofs.database.findings_in.Given as goal

abbrev pub invariant-found : goal.invariant-found
invariant-found l = l.moved.items ≡ map (finding_in l.start) (take l.finding-index l.found)
