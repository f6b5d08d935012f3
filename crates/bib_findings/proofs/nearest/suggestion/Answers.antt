use Rattle.std.proofs.Common.{sym, ◌∙◌, arith}
use Rattle.bib_findings.specs.Nearest.{is_plausible}
use Rattle.bib_findings.proofs.NearestFacts.{name_found, name_passed, no_name}
use Rattle.bib_findings.proofs.nearest.suggestion.Goals as goal

pub returns-then-branch : goal.returns-then-branch
returns-then-branch c =
    sym
    (name_found (is_plausible c.args.name.now) c.args.names.now c.names.known-index _ c.names-test.true c.names.invariant
    (sym c.in_ok-is_plausible.ensures ∙ c.if-branch.true))

pub names-preserved : goal.names-preserved
names-preserved c =
    name_passed (is_plausible c.args.name.now) c.args.names.now c.names.known-index _ c.names-test.true c.names.invariant
    (sym c.in_ok-is_plausible.ensures ∙ c.if-branch.false)

pub returns : goal.returns
returns c = sym (no_name (is_plausible c.args.name.now) c.args.names.now c.names.known-index (omega arith) c.names.invariant)
