use Rattle.std.proofs.Common.{◌∙◌, ap, sym}
use Rattle.std.specs.List.{list_any}
use Rattle.bib_text.proofs.ListFacts.{any_mapped}
use Rattle.bib_syntax.specs.Views.{field_of}
use Rattle.bib_queries.specs.Answers.{is_found}
use Rattle.bib_queries.proofs.excerpts.is_found_in.Goals as goal

pub returns : goal.returns
returns c =
    let search = c.args.search.now in
    c.is_in_fields.ensures ∙ ap (list_any (λ f. is_found search.field.now search.part.now (field_of f))) c.deref.ensures.value
    ∙ sym (any_mapped field_of (is_found search.field.now search.part.now) c.args.entry.now.v.fields.items)
