use Rattle.std.proofs.Common.{◌≡◌, ◌∙◌, map, sym, arith}
use Rattle.std.proofs.lemmas.Grind.{common_steps}
use Rattle.bib_syntax.specs.Recovery.{IsBlockOf}
use Rattle.bib_syntax.specs.Views.{entry_reading_of}
use Rattle.bib_queries.specs.Answers.{has_key}
use Rattle.bib_queries.proofs.MarkFacts.{all_at}
use Rattle.bib_queries.proofs.excerpts.get.Goals as goal

pub print_if-requires : goal.print_if-requires
print_if-requires c =
    all_at (IsBlockOf c.args.text.now) entry_reading_of c.args.entries.now c.entries.entry-index c.entry-item.result
    (c.entries-test.true) (sym c.entry-item.is) c.requires

pub entries-preserved : goal.entries-preserved
entries-preserved c =
    let asked : c.contains.result
    ≡ has_key (map (λ key. key.now) c.args.keys.now) (entry_reading_of c.entry-item.result) =
    c.contains.ensures ∙ c.in_ok-asked.ensures c.entry-item.result.v.key.v.now in
    grind (arith, common_steps)
