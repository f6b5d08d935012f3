use Rattle.std.proofs.Common.{◌++◌, ◌∙◌, ◌∷◌, [], ap, map, sym, take}
use Rattle.std.specs.Prelude.{unwrap_or}
use Rattle.std.proofs.lemmas.List.{map-append}
use Rattle.bib_text.proofs.ListFacts.{mapped_more}
use Rattle.bib_syntax.specs.Reading.{FieldReading}
use Rattle.bib_syntax.specs.Views.{field_of}
use Rattle.edit_resolve.specs.Resolved.{Named, as_itself}
use Rattle.edit_resolve.specs.Working.{instead_at, named_of}
use Rattle.edit_resolve.proofs.gathering.own_fields.Goals as goal

pub fields-preserved : goal.fields-preserved
fields-preserved c =
    let own : FieldReading → Named = λ f. unwrap_or (instead_at c.args.given.now f) (as_itself f) in
    let xs = c.args.fields.now in
    let i = c.fields.field-index in
    let x = c.field-item.result in
    ap (map named_of) c.in_ok-push.ensures.items ∙ map-append named_of c.fields.own.items (c.in_ok-own_field.field-0 ∷ [])
    ∙ ap (λ l. l ++ named_of c.in_ok-own_field.field-0 ∷ []) c.fields.invariant
    ∙ ap (λ y. map own (map field_of (take i xs)) ++ y ∷ []) c.in_ok-own_field.ensures
    ∙ sym
    (ap (map own) (mapped_more field_of xs i x c.fields-test.true c.field-item.is)
    ∙ map-append own (map field_of (take i xs)) (field_of x ∷ []))
