use Rattle.std.proofs.Common.{◌∙◌, ap, ap₂, subst, sym}
use Rattle.biblatex.specs.Headline.{IsBibliographyOf}
use Rattle.bib_from_csl.specs.FromItems.{items_source}
use Rattle.bib_from_csl.specs.Losses.{all_losses}
use Rattle.bib_from_csl.proofs.ConvertingFacts.{made, unread_items, unread_refused}
use Rattle.bib_from_csl.proofs.converting.entries_of.Goals as goal

pub returns-in-Err-clause-refused : goal.returns-in-Err-clause-refused
returns-in-Err-clause-refused c =
    let of = sym c.in_ok-items.ensures ∙ c.in-Are.is in
    let is = c.as_str.ensures ∙ (c.in_ok-text.ensures ∙ ap items_source c.as_slice.ensures) in
    unread_refused c.args.json.now c.in_ok-unread-in-Err.field-0 c.in_ok-unread-in-Err.ensures
    (unread_items c.args.json.now c.as_str.result.now c.in-Are.items c.in-Err.error of is
    c.in_ok-unless_out_of_memory-in-Err.ensures.ok c.in-Err.ensures.refused)

pub returns-clause-made : goal.returns-clause-made
returns-clause-made c =
    let of = sym c.in_ok-items.ensures ∙ c.in-Are.is in
    let is = c.in_ok-text.ensures ∙ ap items_source c.as_slice.ensures in
    made c.args.json.now c.in_ok-text.text c.in-Are.items c.in-Ok.bibliography c.in_ok-losses.losses of is
    (subst (λ t. IsBibliographyOf t c.in-Ok.bibliography) c.as_str.ensures c.in-Ok.ensures.loaded)
    (c.in_ok-losses.ensures ∙ ap₂ all_losses c.as_slice-2.ensures (c.as_slice-3.ensures.value ∙ c.into_vec-entries.ensures))
