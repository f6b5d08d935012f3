use Rattle.std.proofs.Common.{◌∙◌, ◌++◌, ap, sym}
use Rattle.bib_syntax.specs.Views.{entry_reading_of}
use Rattle.bib_queries.specs.Known.{uncited_key}
use Rattle.bib_queries.proofs.MarkFacts.{made_of_more}
use Rattle.bib_queries.proofs.known.uncited_among.Goals as goal

pub entries-preserved : goal.entries-preserved
entries-preserved c = λ keys same.
    let entry = c.entry-item.result in
    c.in_ok-push_uncited.ensures keys same ∙ ap (λ l. l ++ uncited_key keys (entry_reading_of entry)) (c.entries.invariant keys same)
    ∙ sym
    (made_of_more entry_reading_of (uncited_key keys) c.args.entries.now c.entries.entry-index entry
    c.entries-test.true (sym c.entry-item.is))
