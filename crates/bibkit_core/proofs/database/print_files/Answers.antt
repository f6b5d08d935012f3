use Rattle.std.proofs.Common.{◌≡◌, ◌∙◌, ◌+◌, ◌-◌, arith, drop, ap, get_or, length, subst, sym, take}
use Rattle.bib_text.proofs.ListFacts.{take_to_end}
use Rattle.bibkit_core.specs.Database.{AreFilesPrinted, count_of_file, no_findings}
use Rattle.std.specs.String.{string_bytes}
use Rattle.std.proofs.lemmas.List.{length-drop}
use Rattle.bibkit_core.proofs.DatabaseFacts.{files_all, files_more}
use Rattle.bibkit_core.proofs.database.print_files.Goals as goal

pub files-preserved : goal.files-preserved
files-preserved c =
    let ends = c.ends-ends.result.now in
    let size : length c.args.files.now ≡ length ends = c.requires ∙ sym (ap length c.ends-ends.ensures.ends) in (
      files_more c.args.files.now ends c.args.found.now _ c.files.start c.files.first c.count_of_file-count.result c.files.index
          c.index-files-index.result c.files-test.true (omega (arith, size, c.files-test.true)) c.index-files-index.is
          (c.count_of_file-count.ensures.count
          ∙ ap (λ later. count_of_file later (get_or ends c.files.index 0)
          (take (length c.args.found.now - c.files.first) (drop c.files.first c.args.found.now)))
          (take_to_end ends (c.files.index + 1))
          ∙ ap (count_of_file (drop (c.files.index + 1) ends) (get_or ends c.files.index 0)) (take_to_end c.args.found.now c.files.first))
          (ap (take c.count_of_file-count.result) (take_to_end c.args.found.now c.files.first)) c.in_ok-print_file.ensures
          c.files.invariant.0,
      omega (
        arith,
        c.count_of_file-count.ensures.within,
        ap length (take_to_end c.args.found.now c.files.first),
        length-drop c.files.first c.args.found.now,
        c.files.invariant.1,
      ),
    )

pub returns : goal.returns
returns c =
    let ends = c.ends-ends.result.now in
    let size : length c.args.files.now ≡ length ends = c.requires ∙ sym (ap length c.ends-ends.ensures.ends) in
    subst (λ l. AreFilesPrinted c.args.lint.now 0 c.args.files.now l c.args.found.now no_findings (string_bytes c.files.printed.text)
    c.files.printed.tally) c.ends-ends.ensures.ends
    (files_all c.args.files.now ends c.args.found.now c.files.start c.files.first c.files.index c.files.printed
    (omega (arith, c.files-test.false)) (omega (arith, size, c.files-test.false)) c.files.invariant.0)
