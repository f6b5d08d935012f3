use Rattle.std.proofs.Common.{◌≢◌, ◌∙◌, [], ap, ap₂, subst, sym}
use Rattle.biblatex.specs.Headline.{IsBibliographyOf}
use Rattle.bib_from_csl.specs.FromItems.{items_source}
use Rattle.bib_from_ris.specs.FromRis.{losses_with}
use Rattle.bib_from_ris.specs.RisItems.{record_items, ris_sections}
use Rattle.bib_from_ris.proofs.ConvertingFacts.{made, no_items, some_items, unread_records, unread_refused}
use Rattle.bib_from_ris.proofs.converting.entries_of_ris.Goals as goal

pub returns-then-is_empty-clause-refused : goal.returns-then-is_empty-clause-refused
returns-then-is_empty-clause-refused c =
    let items = c.in_ok-items.ensures ∙ ap (record_items 1) (c.as_slice.ensures ∙ c.in_ok-sections.ensures) in
    sym items ∙ no_items c.in_ok-items.items (sym c.is_empty.ensures ∙ c.if-is_empty.true)

pub returns-in-Err-clause-refused : goal.returns-in-Err-clause-refused
returns-in-Err-clause-refused c =
    let items = c.in_ok-items.ensures ∙ ap (record_items 1) (c.as_slice.ensures ∙ c.in_ok-sections.ensures) in
    let is = c.as_str.ensures ∙ (c.in_ok-text.ensures ∙ ap items_source (c.as_slice-2.ensures ∙ items)) in
    unread_refused c.args.ris.now c.in_ok-unread-in-Err.field-0 c.in_ok-unread-in-Err.ensures
    (unread_records c.args.ris.now c.as_str.result.now c.in-Err.error is c.in_ok-unless_out_of_memory-in-Err.ensures.ok
    c.in-Err.ensures.refused)

pub returns-clause-made : goal.returns-clause-made
returns-clause-made c =
    let items = c.in_ok-items.ensures ∙ ap (record_items 1) (c.as_slice.ensures ∙ c.in_ok-sections.ensures) in
    let is = c.in_ok-text.ensures ∙ ap items_source (c.as_slice-2.ensures ∙ items) in
    let entries = c.as_slice-5.ensures.value ∙ c.into_vec-entries.ensures in
    made c.args.ris.now c.in_ok-text.text c.in-Ok.bibliography c.in_ok-losses.losses
    (subst (λ l. l ≢ []) items (some_items c.in_ok-items.items (sym c.is_empty.ensures ∙ c.if-is_empty.false))) is
    (subst (λ t. IsBibliographyOf t c.in-Ok.bibliography) c.as_str.ensures c.in-Ok.ensures.loaded)
    (c.in_ok-losses.ensures
    ∙ ap (λ s. losses_with s c.as_slice-4.result.now c.as_slice-5.result.now) (c.as_slice-3.ensures ∙ c.in_ok-sections.ensures)
    ∙ ap₂ (losses_with (ris_sections c.args.ris.now)) (c.as_slice-4.ensures ∙ items) entries)
