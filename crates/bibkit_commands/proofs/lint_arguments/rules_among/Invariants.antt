use Rattle.std.proofs.Common.{◌≡◌, map, take}
use Rattle.std.specs.List.{flat_map}
use Rattle.bibkit_core.specs.Rules.{rules_named}
use Rattle.bibkit_commands.proofs.lint_arguments.rules_among.Given as goal

-- the rules are those among the first words
abbrev pub invariant-words : goal.invariant-words
invariant-words l = l.rules.items ≡ flat_map rules_named (map (λ word. word.now) (take l.word-index l.words))
