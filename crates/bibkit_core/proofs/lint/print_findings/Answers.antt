use Rattle.std.proofs.Common.{◌≡◌, ◌+◌, ◌++◌, ◌∷◌, [], take, sym, ap, ◌∙◌}
use Rattle.std.proofs.lemmas.List.{take_more}
use Rattle.bib_source.specs.Positions.{position_at}
use Rattle.bibkit_core.proofs.FindingFacts.{none_added, step_printed, step_passed}
use Rattle.bibkit_core.proofs.lint.print_findings.Goals as goal
use Rattle.bibkit_core.proofs.lint.print_findings.Goals.{then-branch+in_ok-print_finding, else-branch}

pub findings-init : goal.findings-init
findings-init c = record { same = c.of_bytes-positions.ensures; added = none_added c.args.printed.now }

pub findings-preserved : goal.findings-preserved
findings-preserved c =
    let i = c.findings.finding-index in
    let f = c.finding-item.result in
    let grows : take (i + 1) c.args.found.now ≡ take i c.args.found.now ++ f ∷ [] =
    take_more c.args.found.now i f c.findings-test.true
    ∙ ap (λ g. take i c.args.found.now ++ g ∷ []) (sym c.finding-item.is) in
    record {
      same = c.position-start.ensures.same ∙ c.findings.invariant.same;
      added = elim c.if-branch.branch [
        | then-branch+in_ok-print_finding w ↦ step_printed c.args.lint.now.selection c.args.off.now (take i c.args.found.now)
            (take (i + 1) c.args.found.now) f w.region_at-region.result grows
            (sym c.in_ok-asks_for.ensures ∙ w.if-branch.true) w.region_at-region.ensures
            c.findings.invariant.added w.in_ok-print_finding.ensures w.printed-is
        | else-branch w ↦ step_passed c.args.lint.now.selection c.args.off.now (take i c.args.found.now)
            (take (i + 1) c.args.found.now) f grows
            (sym c.in_ok-asks_for.ensures ∙ w.if-branch.false) c.findings.invariant.added w.printed-is
      ];
    }

pub region_at-region-requires : goal.region_at-region-requires
region_at-region-requires c =
    c.position-start.ensures.found ∙ ap (λ b. position_at b c.finding-item.result.span.start) c.findings.invariant.same
