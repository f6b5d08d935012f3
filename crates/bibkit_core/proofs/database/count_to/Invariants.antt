use Rattle.std.proofs.Common.{◌≡◌, ◌+◌, drop}
use Rattle.bibkit_core.specs.Database.{count_to}
use Rattle.bibkit_core.proofs.database.count_to.Given as goal

-- the count for all findings is the number of those so far, plus the count for the others
abbrev pub invariant-found : goal.invariant-found
invariant-found l = count_to l.end l.found ≡ l.count + count_to l.end (drop l.count l.found)
