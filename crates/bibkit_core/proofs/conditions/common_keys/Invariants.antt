use Rattle.std.proofs.Common.{◌≡◌, map, take}
use Rattle.std.specs.Prelude.{filter}
use Rattle.bib_queries.specs.Needed.{is_listed}
use Rattle.bibkit_core.proofs.conditions.common_keys.Given as goal

abbrev pub invariant-wanted : goal.invariant-wanted
invariant-wanted l =
    map (λ key. key.now) l.common.items
    ≡ filter (is_listed (map (λ key. key.now) l.keys)) (map (λ key. key.now) (take l.key-index l.wanted))
