use Rattle.std.proofs.Common.{ap, subst, ◌∙◌}
use Rattle.std.specs.String.{string_bytes}
use Rattle.bibkit_core.specs.Adding.{IsAdded}
use Rattle.bibkit_core.specs.Asked.{selected_findings}
use Rattle.bibkit_core.specs.Conditions.{findings_of_no_entry}
use Rattle.bibkit_core.specs.Encodings.{byte_findings}
use Rattle.bibkit_core.specs.Linted.{ArePrinted, off_in}
use Rattle.bibkit_core.proofs.FindingFacts.{kept_added}
use Rattle.bibkit_core.proofs.lint.print_kept.Goals as goal

pub returns : goal.returns
returns c =
    let lint = c.args.lint.now in
    let name = c.args.origin.now.name.now in
    let conditions = lint.conditions.items in
    let off = c.in_ok-off.ensures ∙ ap (off_in lint) c.deref.ensures in
    let of_bytes =
    subst
    (λ o.
    IsAdded
    (ArePrinted lint.style name c.args.origin.now.bytes.now
    (selected_findings lint.selection o
    (findings_of_no_entry conditions (byte_findings c.args.origin.now.bytes.now c.args.decoded.now.invalid))))
    c.args.printed.now c.print_byte_findings.new.printed)
    (c.deref-2.ensures.value ∙ off) c.in_ok-print_byte_findings.ensures in
    let placed =
    subst
    (λ b.
    IsAdded (ArePrinted lint.style name b (selected_findings lint.selection c.deref-3.result.now c.args.kept.now))
    c.print_byte_findings.new.printed c.print_findings.new.printed)
    c.as_bytes.ensures.value c.in_ok-print_findings.ensures in
    let of_text =
    subst
    (λ o.
    IsAdded
    (ArePrinted lint.style name (string_bytes c.args.decoded.now.text) (selected_findings lint.selection o c.args.kept.now))
    c.print_byte_findings.new.printed c.print_findings.new.printed)
    (c.deref-3.ensures.value ∙ off) placed in
    kept_added c.args.kept.now of_bytes of_text
