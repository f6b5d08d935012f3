use Rattle.std.proofs.Common.{ap, sym, ◌∙◌}
use Rattle.bib_syntax.specs.Views.{entry_reading_of}
use Rattle.bib_findings.specs.Reported.{is_reported_field, malformed_finding}
use Rattle.bib_findings.proofs.AddingFacts.{reported_next, unreported_next}
use Rattle.bib_findings.proofs.entries.add_malformed.Goals as goal
use Rattle.bib_findings.proofs.entries.add_malformed.Goals.{then-is_reported+in_ok-malformed_finding+in_ok-push, else-is_reported}

pub errors-preserved : goal.errors-preserved
errors-preserved c =
    let said = entry_reading_of c.args.said.now in
    let item = c.errors-item.result in
    let is = sym (c.in_ok-is_reported.ensures ∙ ap (is_reported_field said c.args.entry.now) c.as_str.ensures) in
    elim c.if-is_reported.branch [
      | then-is_reported+in_ok-malformed_finding+in_ok-push w ↦
          reported_next said c.args.entry.now c.args.errors.now c.errors.name-index item c.args.found.now.items c.errors.found.items
          c.if-is_reported.found.items w.in_ok-malformed_finding.field-0 c.errors-test.true c.errors-item.is c.errors.invariant
          (is ∙ w.if-is_reported.true) (ap (λ v. v.items) w.found-is ∙ w.in_ok-push.ensures.items)
          (w.in_ok-malformed_finding.ensures
          ∙ ap (λ name. malformed_finding said c.args.entry.now (name, item.1)) w.as_str-then-is_reported.ensures)
      | else-is_reported w ↦
          ap (λ v. v.items) w.found-is
          ∙ unreported_next said c.args.entry.now c.args.errors.now c.errors.name-index item c.args.found.now.items c.errors.found.items
          c.errors-test.true c.errors-item.is c.errors.invariant (is ∙ w.if-is_reported.false)
    ]
