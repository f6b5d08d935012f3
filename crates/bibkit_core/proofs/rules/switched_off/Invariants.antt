use Rattle.std.proofs.Common.{◌≡◌, map}
use Rattle.std.specs.List.{flat_map}
use Rattle.bibkit_core.specs.Rules.{rules_of_line}
use Rattle.bibkit_core.proofs.rules.switched_off.Given as goal

-- the rules are those of the lines so far
abbrev pub invariant-lines : goal.invariant-lines
invariant-lines l = l.rules.items ≡ flat_map rules_of_line (map (λ n. n.now) l.yielded)
