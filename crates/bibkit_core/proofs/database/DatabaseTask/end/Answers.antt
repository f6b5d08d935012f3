use Rattle.std.proofs.Common.{◌≡◌, ◌∙◌, ◌++◌, ap, append_assoc, length, subst, sym}
use Rattle.std.specs.String.{string_bytes}
use Rattle.bibkit_core.specs.Database.{AreFilesPrinted, AreOfDatabase, joined_texts, no_findings}
use Rattle.bibkit_core.proofs.DatabaseFacts.{joined_length}
use Rattle.bibkit_core.proofs.database.DatabaseTask.end.Goals as goal

pub print_files-requires : goal.print_files-requires
print_files-requires c =
    ap length c.deref-2.ensures.value ∙ joined_length c.args.self.now.files.items
    ∙ ap (λ texts. length texts.ends) (sym (c.in_ok-texts.ensures ∙ ap joined_texts c.deref.ensures.value))

pub returns : goal.returns
returns c =
    let task = c.args.self.now in
    let lint = task.lint.now in
    let files = task.files.items in
    let texts_are : c.in_ok-texts.texts ≡ joined_texts files = c.in_ok-texts.ensures ∙ ap joined_texts c.deref.ensures.value in
    let found = c.in_ok-kept.ensures in
    let says = found.0 in
    let kept = c.in_ok-kept.field-0.kept.items in
    let printed = c.in_ok-printed.printed in
    let first = string_bytes printed.text in
    let added = c.in_ok-print_missing.ensures says.entries found.2 in
    let last = string_bytes c.in_ok-closing.field-0 in
    record {
      says = says;
      kept = kept;
      are = subst (λ texts. AreOfDatabase lint task.document texts says kept) texts_are found.1;
      first = first;
      between = printed.tally;
      of_files =
          subst (λ texts. AreFilesPrinted lint 0 files texts.ends kept no_findings first printed.tally) texts_are
          (subst (λ l. AreFilesPrinted lint 0 l c.in_ok-texts.texts.ends kept no_findings first printed.tally) c.deref-2.ensures.value
          (subst (λ l. AreFilesPrinted lint 0 c.deref-2.result.now c.in_ok-texts.texts.ends l no_findings first printed.tally)
          c.deref-3.ensures.value c.in_ok-printed.ensures));
      second = added.text;
      after = c.print_missing.new.printed.tally;
      of_document = added.are;
      last = last;
      closes = c.in_ok-closing.ensures;
      is = c.in_ok-push_str.ensures.bytes ∙ ap (λ t. string_bytes c.print_missing.new.printed.text ++ t) c.deref-4.ensures
          ∙ ap (λ t. t ++ last) added.printed ∙ append_assoc first added.text last;
      status_is = c.lint_status.ensures;
    }
