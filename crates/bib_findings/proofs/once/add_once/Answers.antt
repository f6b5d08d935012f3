use Rattle.std.proofs.Common.{◌≡◌, ◌++◌, ◌∙◌, ◌+◌, List, ℕ, ap, append_assoc, arith, drop, get_or, length, map, refl, sym, take}
use Rattle.std.proofs.lemmas.List.{drop-drop, drop_all, length-drop}
use Rattle.bib_text.proofs.ListFacts.{take_to_end}
use Rattle.bib_syntax.specs.Reading.{EntryReading}
use Rattle.bib_syntax.specs.Views.{entry_reading_of}
use Rattle.bib_findings.specs.Duplicates.{entries_at}
use Rattle.bib_findings.specs.Once.{count_begun, once_findings, once_in_file}
use Rattle.bib_findings.proofs.FileFacts.{file_next, within_dropped}
use Rattle.bib_findings.proofs.once.add_once.Goals as goal

pub ends-preserved : goal.ends-preserved
ends-preserved c =
    let readings : List EntryReading = map entry_reading_of c.args.said.now in
    let first = c.ends.first in
    let index = c.ends.end-index in
    let count = c.count_begun-count.result in
    let ends = c.args.ends.now in
    let end = get_or ends index 0 in
    let left : List ℕ = drop first c.args.origins.now in
    let whole = take_to_end c.args.origins.now first in
    let counted : count ≡ count_begun end (entries_at readings left) =
    c.count_begun-count.ensures.count ∙ ap (λ l. count_begun end (entries_at readings l)) whole in
    let added : c.add_of_file.new.found.items ≡ c.ends.found.items ++ once_in_file (entries_at readings (take count left)) =
    c.in_ok-add_of_file.ensures.added ∙ ap (λ l. c.ends.found.items ++ once_in_file (entries_at readings (take count l))) whole in
    let later : List ℕ = drop (index + 1) ends in
    record {
      met = c.in_ok-add_of_file.ensures.met;
      found =
          ap (λ l. l ++ once_findings later (entries_at readings (drop (first + count) c.args.origins.now))) added
          ∙ ap
          (λ l. (c.ends.found.items ++ once_in_file (entries_at readings (take count left))) ++ once_findings later (entries_at readings l))
          (sym (drop-drop count first c.args.origins.now))
          ∙ append_assoc c.ends.found.items (once_in_file (entries_at readings (take count left)))
          (once_findings later (entries_at readings (drop count left)))
          ∙ ap (λ l. c.ends.found.items ++ l)
          (sym (file_next c.args.said.now ends left index end count (within_dropped c.args.said.now c.args.origins.now first c.requires)
          c.ends-test.true refl counted))
          ∙ c.ends.invariant.found;
      within =
          omega (
            arith,
            c.count_begun-count.ensures.within,
            ap length whole,
            length-drop first c.args.origins.now,
            c.ends.invariant.within,
          );
    }

pub returns : goal.returns
returns c =
    let readings : List EntryReading = map entry_reading_of c.args.said.now in
    let left : List ℕ = drop c.ends.first c.args.origins.now in
    c.in_ok-add_of_file-2.ensures.added
    ∙ ap (λ l. c.ends.found.items ++ once_in_file (entries_at readings l)) (take_to_end c.args.origins.now c.ends.first)
    ∙ ap (λ l. c.ends.found.items ++ once_findings l (entries_at readings left))
    (sym (drop_all c.ends.end-index c.args.ends.now c.ends-test.false))
    ∙ c.ends.invariant.found
