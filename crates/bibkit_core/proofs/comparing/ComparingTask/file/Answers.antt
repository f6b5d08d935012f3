use Rattle.std.proofs.Common.{◌++◌, ap, subst, ◌∙◌}
use Rattle.std.specs.String.{string_bytes}
use Rattle.bibkit_core.specs.Asked.{selected_findings}
use Rattle.bibkit_core.specs.Conditions.{AreReportedFindings}
use Rattle.bibkit_core.specs.Linted.{ArePrinted, off_in}
use Rattle.bibkit_core.specs.Marks.{AreKnownWith, AreUnused}
use Rattle.bibkit_core.specs.Tasks.{in_file}
use Rattle.bibkit_core.proofs.comparing.ComparingTask.file.Goals as goal

pub returns : goal.returns
returns c =
    let before = c.print_file.new.self.tally in
    let after = c.print.new.self.tally in
    let text = string_bytes c.in_ok-more.more in
    let unused = c.in_ok-unused.unused.items in
    let kept = c.in_ok-kept.kept.items in
    let of_lint =
    subst
    (λ l.
    ArePrinted l.style c.args.name.now c.as_bytes.result.now
    (selected_findings l.selection c.deref-2.result.now c.deref-3.result.now) before
    text after) c.in_ok-text.ensures.lint c.in_ok-more.ensures.printed in
    let lint = c.args.self.now.linting.lint.now in
    let off =
    c.deref-2.ensures.value ∙ c.in_ok-off.ensures ∙ ap (λ l. off_in l c.as_str-3.result.now) c.lint-lint.ensures
    ∙ ap (off_in lint) c.as_str-3.ensures.value in
    let listed =
    subst
    (λ f.
    ArePrinted lint.style c.args.name.now c.as_bytes.result.now (selected_findings lint.selection c.deref-2.result.now f) before text after)
    c.deref-3.ensures.value of_lint in
    let switched =
    subst
    (λ o. ArePrinted lint.style c.args.name.now c.as_bytes.result.now (selected_findings lint.selection o kept) before text after)
    off listed in
    record {
      first = string_bytes c.in_ok-text.text;
      second = text;
      between = before;
      decoded = c.in_ok-decoded.decoded;
      unused = unused;
      kept = kept;
      lint = c.in_ok-more.ensures.lint ∙ c.in_ok-text.ensures.lint;
      document = c.in_ok-unused.ensures.same;
      found = c.in_ok-text.ensures.printed;
      of_bytes = c.in_ok-decoded.ensures;
      known =
          subst (λ t. AreKnownWith t c.args.self.now.document c.compare.new.self.known.items) c.as_str.ensures.value
          c.in_ok-unused.ensures.known;
      are_unused =
          subst (λ t. AreUnused c.args.self.now.document t c.in_ok-unused.unused.items) c.as_str.ensures.value
          c.in_ok-unused.ensures.unused;
      reported =
          subst (λ l. AreReportedFindings l.conditions.items (string_bytes c.in_ok-decoded.decoded.text) unused kept) c.lint-lint.ensures
          (subst (λ t. AreReportedFindings c.lint-lint.result.now.conditions.items t unused kept) c.as_str-2.ensures.value
          (subst (λ cs. AreReportedFindings cs c.as_str-2.result.now unused kept) c.deref.ensures.value c.in_ok-kept.ensures));
      more =
          subst
          (λ b.
          ArePrinted lint.style c.args.name.now b
          (selected_findings lint.selection (off_in lint (string_bytes c.in_ok-decoded.decoded.text)) kept) before text
          after) c.as_bytes.ensures.value switched;
      is = c.in_ok-output.ensures ∙ ap (λ l. in_file l.style c.args.name.now (string_bytes c.push_str.new.self)) c.lint-lint.ensures
          ∙ ap (in_file lint.style c.args.name.now)
          (c.in_ok-push_str.ensures.bytes ∙ ap (λ t. string_bytes c.in_ok-text.text ++ t) c.deref-4.ensures);
    }
