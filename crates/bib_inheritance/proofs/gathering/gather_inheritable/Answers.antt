use Rattle.std.proofs.Common.{◌∙◌, ap}
use Rattle.bib_tables.specs.Requirements.{texts, author_names, page_names}
use Rattle.bib_tables.specs.Row.{optional_of_row}
use Rattle.bib_inheritance.specs.Gathering.{gathered_text, offer_among}
use Rattle.bib_inheritance.specs.EntryTexts.{first_some, texts_of_reference}
use Rattle.bib_inheritance.proofs.GatheredFacts.{inheritable_gathered}
use Rattle.bib_inheritance.proofs.gathering.gather_inheritable.Goals as goal

pub returns : goal.returns
returns c = λ q.
    let row = c.row-row.result.now in
    let s = texts_of_reference c.args.reference.now in
    let required = texts row.required.now in
    let optional = optional_of_row row in
    let pages = texts c.possible.result.now in
    let author = texts c.possible-2.result.now in
    c.in_ok-gather_offers-3.ensures q
    ∙ ap (first_some (offer_among author s q))
    (c.in_ok-gather_offers-2.ensures q
    ∙ ap (first_some (offer_among pages s q))
    (c.in_ok-gather_groups.ensures q ∙ ap (first_some (offer_among optional s q)) (c.in_ok-gather_offers.ensures q)))
    ∙ inheritable_gathered c.args.entry_type.now s required optional pages author q (gathered_text c.args.gathered.now q)
    (ap (λ r. r.required) c.row-row.ensures) (ap (λ r. r.optional) c.row-row.ensures)
    (c.possible.ensures ∙ ap (λ r. page_names r.pages) c.row-row.ensures)
    (c.possible-2.ensures ∙ ap (λ r. author_names r.author) c.row-row.ensures)
