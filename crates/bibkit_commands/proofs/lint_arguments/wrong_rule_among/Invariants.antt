use Rattle.std.proofs.Common.{◌≡◌, drop, map}
use Rattle.std.specs.List.{find}
use Rattle.bibkit_commands.specs.Asked.{is_no_rule}
use Rattle.bibkit_commands.proofs.lint_arguments.wrong_rule_among.Given as goal

-- the first words are rules, so the first word that is none is among the others
abbrev pub invariant-words : goal.invariant-words
invariant-words l =
    find is_no_rule (map (λ word. word.now) l.words) ≡ find is_no_rule (map (λ word. word.now) (drop l.word-index l.words))
