use Rattle.std.proofs.Common.{[], ◌∷◌, ◌++◌, ap, subst, sym, ◌∙◌}
use Rattle.std.specs.List.{AllZip}
use Rattle.std.proofs.lemmas.List.{take_all, take_more}
use Rattle.bib_text.proofs.ListFacts.{all_zip_push}
use Rattle.bibkit_core.specs.Joining.{with_rule}
use Rattle.bibkit_core.specs.Sarif.{IsRuleOf}
use Rattle.bibkit_core.proofs.SarifFacts.{rules_more}
use Rattle.bibkit_core.proofs.sarif.rule_elements.Goals as goal

pub codes-preserved : goal.codes-preserved
codes-preserved c =
    let (rules, of_codes, are) = c.codes.invariant in
    let (rule, is_of, added) = c.in_ok-push_rule.ensures in
    let items = c.all-code-items.result.now in (
      rules ++ rule ∷ [],
      subst (λ codes. AllZip IsRuleOf codes (rules ++ rule ∷ [])) (sym (take_more items c.codes.code-index _ c.codes-test.true))
          (all_zip_push IsRuleOf _ rules _ rule of_codes is_of),
      added ∙ ap (λ t. with_rule t rule) are ∙ sym (rules_more rules rule),
    )

pub returns : goal.returns
returns c =
    let (rules, of_codes, are) = c.codes.invariant in (
      rules,
      subst (λ codes. AllZip IsRuleOf codes rules)
          (take_all c.codes.code-index c.all-code-items.result.now c.codes-test.false ∙ c.all-code-items.ensures) of_codes,
      are,
    )
