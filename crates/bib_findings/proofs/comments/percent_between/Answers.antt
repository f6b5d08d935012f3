use Rattle.std.proofs.Common.{◌≡◌, ◌+◌, rules, tests, sym, ap, ◌∙◌}
use Rattle.std.specs.Prelude.{◌==◌, option_map}
use Rattle.std.specs.List.{position}
use Rattle.std.proofs.lemmas.Iterator.{YieldsList-from_slice}
use Rattle.std.proofs.lemmas.Iterator.Search.{position_from_yields_List}
use Rattle.bib_findings.proofs.comments.percent_between.Goals as goal

pub returns-in-Some : goal.returns-in-Some
returns-in-Some c =
    let gap = c.stretch-gap.result.now in
    let found : c.position.result ≡ position (λ b. b == 37) gap =
    position_from_yields_List (λ b. b == 37) _ _ c.position.result c.position.ensures.ran (YieldsList-from_slice gap cc)
    (λ x b q k. search (rules, tests)) in
    ap (option_map (λ index. c.args.start + index))
    (sym c.in-Some.is ∙ found ∙ ap (position (λ b. b == 37)) c.stretch-gap.ensures.is)

pub returns-in-None : goal.returns-in-None
returns-in-None c =
    let gap = c.stretch-gap.result.now in
    let found : c.position.result ≡ position (λ b. b == 37) gap =
    position_from_yields_List (λ b. b == 37) _ _ c.position.result c.position.ensures.ran (YieldsList-from_slice gap cc)
    (λ x b q k. search (rules, tests)) in
    ap (option_map (λ index. c.args.start + index))
    (sym c.in-None.is ∙ found ∙ ap (position (λ b. b == 37)) c.stretch-gap.ensures.is)
