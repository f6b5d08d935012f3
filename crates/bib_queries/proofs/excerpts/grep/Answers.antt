use Rattle.std.proofs.Common.{sym}
use Rattle.bib_syntax.specs.Recovery.{IsBlockOf}
use Rattle.bib_syntax.specs.Views.{entry_reading_of}
use Rattle.bib_queries.proofs.MarkFacts.{all_at}
use Rattle.bib_queries.proofs.excerpts.grep.Goals as goal

pub print_if-requires : goal.print_if-requires
print_if-requires c =
    all_at (IsBlockOf c.args.text.now) entry_reading_of c.args.entries.now c.entries.entry-index c.entry-item.result
    (c.entries-test.true) (sym c.entry-item.is) c.requires
