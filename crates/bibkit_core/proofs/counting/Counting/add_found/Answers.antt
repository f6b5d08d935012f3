use Rattle.std.proofs.Common.{◌≡◌, ◌+◌, ◌∷◌, ◌++◌, [], take, ap, refl, sym, subst, ◌∙◌}
use Rattle.std.proofs.lemmas.List.{take_more}
use Rattle.bibkit_core.specs.Totals.{AddsFindings, AddsNames}
use Rattle.bibkit_core.proofs.CountFacts.{adds_finding, adds_more_findings, adds_no_findings}
use Rattle.bibkit_core.proofs.counting.Counting.add_found.Goals as goal

pub findings-init : goal.findings-init
findings-init c = adds_no_findings c.args.self.now

pub findings-preserved : goal.findings-preserved
findings-preserved c =
    let found = c.args.found.now in
    let i = c.findings.finding-index in
    let f = c.finding-item.result in
    let grows : take (i + 1) found ≡ take i found ++ f ∷ [] =
    take_more found i f c.findings-test.true ∙ ap (λ g. take i found ++ g ∷ []) (sym c.finding-item.is) in
    let named =
    subst (λ n. AddsNames (n ∷ []) c.findings.self.findings c.add.new.self)
    (c.in_ok-from_str.ensures.ok ∙ c.name.ensures) c.in_ok-add.ensures in
    let one = adds_finding f c.findings.self (record c.findings.self { findings = c.add.new.self }) refl refl refl refl named in
    subst (λ l. AddsFindings l c.args.self.now (record c.findings.self { findings = c.add.new.self })) (sym grows)
    (adds_more_findings c.findings.invariant one)
