use Rattle.std.proofs.Common.{◌++◌, ap, sym, ◌∙◌}
use Rattle.std.specs.Prelude.{codes}
use Rattle.bib_entry.specs.WrittenEntries.{entry_in}
use Rattle.biblatex.specs.Writing.{empty_line_unless}
use Rattle.biblatex.proofs.WritingFacts.{next_written, not_first}
use Rattle.biblatex.proofs.write.text_of.Goals as goal

pub entries-preserved : goal.entries-preserved
entries-preserved c =
    let written =
    next_written (entry_in c.args.dialect) c.args.entries.now c.entries.entry-index c.entry-item.result
    c.entries.is_first c.entries-test.true c.entry-item.is c.entries.invariant.1 in (
      c.in_ok-write_next.ensures
          ∙ ap
          (λ bs. bs ++ (empty_line_unless c.entries.is_first ++ (entry_in c.args.dialect c.entry-item.result ++ codes "\n")))
          c.entries.invariant.0 ∙ sym written,
      not_first c.entries.entry-index,
    )
