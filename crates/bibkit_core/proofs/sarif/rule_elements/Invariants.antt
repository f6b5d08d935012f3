use Rattle.std.proofs.Common.{◌≡◌, List, take}
use Rattle.std.specs.List.{AllZip}
use Rattle.std.specs.String.{string_bytes}
use Rattle.bibkit_core.specs.Sarif.{IsRuleOf, Rule, rule_elements}
use Rattle.bibkit_core.proofs.sarif.rule_elements.Given as goal

-- the text has a rule for each of the first codes
abbrev pub invariant-codes : goal.invariant-codes
invariant-codes l =
    (rules : List Rule) × AllZip IsRuleOf (take l.code-index l.code-items) rules × (string_bytes l.rules ≡ rule_elements rules)
