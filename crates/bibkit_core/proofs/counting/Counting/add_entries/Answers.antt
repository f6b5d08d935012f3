use Rattle.std.proofs.Common.{sym, subst}
use Rattle.bib_text.proofs.ListFacts.{mapped_more}
use Rattle.bib_syntax.specs.Views.{entry_reading_of}
use Rattle.bibkit_core.specs.Totals.{AddsEntries}
use Rattle.bibkit_core.proofs.CountFacts.{adds_more_entries, adds_no_entries}
use Rattle.bibkit_core.proofs.counting.Counting.add_entries.Goals as goal

pub entries-init : goal.entries-init
entries-init c = adds_no_entries c.args.self.now

pub entries-preserved : goal.entries-preserved
entries-preserved c =
    subst (λ entries. AddsEntries entries c.args.self.now c.add_entry.new.self)
    (sym
    (mapped_more entry_reading_of c.args.entries.now c.entries.entry-index c.entry-item.result
    c.entries-test.true c.entry-item.is))
    (adds_more_entries c.entries.invariant c.in_ok-add_entry.ensures)
