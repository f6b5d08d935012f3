use Rattle.std.proofs.Common.{[], ◌∷◌, ◌++◌, map, take, unwrap_or, sym, ap, ◌∙◌}
use Rattle.std.proofs.lemmas.List.{map-append}
use Rattle.bib_text.proofs.ListFacts.{mapped_more}
use Rattle.bib_syntax.specs.Views.{entry_reading_of}
use Rattle.edit_sort.specs.Ranks.{owner}
use Rattle.edit_sort.proofs.crossrefs.owners_of.Goals as goal

pub entries-preserved : goal.entries-preserved
entries-preserved c =
    let own = owner c.args.names.now in
    let index = c.entries.entry-index in
    let done = map entry_reading_of (take index c.args.entries.now) in
    let e = entry_reading_of c.entry-item.result in
    c.in_ok-push.ensures.items
    ∙ ap (λ n. c.entries.owners.items ++ n ∷ []) (c.unwrap_or.ensures ∙ ap (λ o. unwrap_or o 0) c.in_ok-index.ensures)
    ∙ ap (λ l. l ++ own e ∷ []) c.entries.invariant
    ∙ sym
    (ap (map own) (mapped_more entry_reading_of c.args.entries.now index c.entry-item.result c.entries-test.true c.entry-item.is)
    ∙ map-append own done (e ∷ []))
