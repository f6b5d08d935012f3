use Rattle.std.proofs.Common.{◌∙◌, subst}
use Rattle.bib_findings.specs.Findings.{AreFindings}
use Rattle.bibkit_core.specs.Adding.{IsAdded}
use Rattle.bibkit_core.specs.Conditions.{AreReportedFindings}
use Rattle.bibkit_core.specs.Linted.{IsPrintedKept}
use Rattle.bibkit_core.proofs.FindingFacts.{file_added}
use Rattle.bibkit_core.proofs.lint.print_file.Goals as goal

pub returns : goal.returns
returns c =
    let lint = c.args.lint.now in
    let name = c.args.origin.now.name.now in
    let bytes = c.args.origin.now.bytes.now in
    let are = subst (λ t. AreFindings t c.in_ok-found.found.items) c.as_str.ensures.value c.in_ok-found.ensures in
    let reported = c.in_ok-reported.reported.items in
    let printed =
    subst (λ f. IsAdded (IsPrintedKept lint name bytes c.args.decoded.now f) c.args.printed.now c.print_kept.new.printed)
    (c.deref-2.ensures.value ∙ c.in_ok-kept.ensures) c.in_ok-print_kept.ensures in
    let about =
    subst (λ t. AreReportedFindings lint.conditions.items t c.in_ok-found.found.items reported) c.as_str-2.ensures.value
    (subst (λ cs. AreReportedFindings cs c.as_str-2.result.now c.in_ok-found.found.items reported) c.deref.ensures.value
    c.in_ok-reported.ensures) in
    file_added c.in_ok-found.found.items reported are about printed
