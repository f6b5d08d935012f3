use Rattle.std.proofs.Common.{◌≡◌, ◌++◌, map}
use Rattle.std.specs.List.{flat_map}
use Rattle.bibkit_core.specs.Rules.{rules_named}
use Rattle.bibkit_core.proofs.rules.push_listed.Given as goal

-- the rules of the names so far are appended
abbrev pub invariant-names : goal.invariant-names
invariant-names l = l.rules.items ≡ l.initial.rules.items ++ flat_map rules_named (map (λ n. n.now) l.yielded)
