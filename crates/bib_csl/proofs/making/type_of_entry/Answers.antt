use Rattle.std.proofs.Common.{◌∙◌, ap, codes}
use Rattle.bib_csl.specs.Texts.{field, shown_field}
use Rattle.bib_csl.specs.Types.{item_type_of}
use Rattle.bib_csl.proofs.making.type_of_entry.Goals as goal

pub returns : goal.returns
unfolding Rattle.bib_csl.specs.Items.type_of_entry
returns c =
    let kind = c.args.entry.now.entry_type in
    c.item_type_of.ensures
    ∙ ap (λ t. item_type_of kind t c.has_event.result) (c.as_str.ensures ∙ c.in_ok-subtype.ensures)
    ∙ ap (λ b. item_type_of kind (shown_field (field c.args.entry.now (codes "entrysubtype"))) b) c.has_event.ensures
