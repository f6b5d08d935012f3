use Rattle.std.proofs.Common.{◌∙◌, ap, map, sym}
use Rattle.std.specs.Prelude.{codes, option_map}
use Rattle.std.specs.List.{find}
use Rattle.bibkit_commands.specs.Arguments.{arguments_of, argument_values}
use Rattle.bibkit_commands.specs.Asked.{is_no_rule}
use Rattle.bibkit_commands.proofs.AskedFacts.{wrong_first, wrong_rest}
use Rattle.bibkit_commands.proofs.lint_arguments.wrong_rule.Goals as goal

pub returns-in-Some : goal.returns-in-Some
returns-in-Some c =
    let arguments = arguments_of c.args.matches.now in
    wrong_first (argument_values arguments (codes "only")) (argument_values arguments (codes "ignore")) c.in-Some.word.now
    (ap (option_map (λ word. word.now)) (sym c.in-Some.is) ∙ c.in_ok-word.ensures
    ∙ ap (λ words. find is_no_rule (map (λ word. word.now) words)) c.deref.ensures.value
    ∙ ap (find is_no_rule) c.in_ok-only.ensures)

pub returns : goal.returns
returns c =
    let arguments = arguments_of c.args.matches.now in
    wrong_rest (argument_values arguments (codes "only")) (argument_values arguments (codes "ignore")) c.deref-2.result.now
    c.wrong_rule_among-2.result
    (ap (option_map (λ word. word.now)) (sym c.in_default.is) ∙ c.in_ok-word.ensures
    ∙ ap (λ words. find is_no_rule (map (λ word. word.now) words)) c.deref.ensures.value
    ∙ ap (find is_no_rule) c.in_ok-only.ensures)
    (ap (map (λ word. word.now)) c.deref-2.ensures.value ∙ c.in_ok-ignored.ensures)
    c.wrong_rule_among-2.ensures
