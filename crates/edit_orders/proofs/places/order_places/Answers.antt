use Rattle.std.proofs.Common.{◌≡◌, ◌∙◌, ap, sym, map}
use Rattle.std.proofs.lemmas.Result.{IfOk-weaker}
use Rattle.bib_abbreviations.specs.Abbreviations.{definition_in, given_by}
use Rattle.bib_abbreviations.proofs.AbbreviationFacts.{definitions_same, sorted_given}
use Rattle.bib_syntax.specs.Views.{entry_reading_of, field_of, file_of}
use Rattle.edit_orders.specs.Orders.{order_parts}
use Rattle.edit_orders.proofs.PlaceFacts.{placed_by}
use Rattle.edit_orders.proofs.places.order_places.Goals as goal

pub returns : goal.returns
returns c =
    let says = file_of c.args.raw.now in
    let defined : given_by c.new-reader.result ≡ definition_in says.abbreviations =
    ap given_by c.new-reader.ensures ∙ sym (sorted_given c.in_ok-definitions.field-0)
    ∙ definitions_same (λ name.
    c.in_ok-definitions.ensures name ∙ ap (λ l. definition_in (map field_of l) name) c.deref.ensures.value) in
    IfOk-weaker c.places_of.result _ _
    (λ places is.
    placed_by says (order_parts c.args.order) c.deref-2.result.now c.deref-4.result.now (given_by c.new-reader.result)
    (map entry_reading_of c.deref-3.result.now) c.in_ok-all.all.items c.deref-5.result.now places.items
    (c.deref-2.ensures.value ∙ c.in_ok-parts.ensures) (c.deref-4.ensures.value ∙ c.in_ok-parts.ensures) defined
    (ap (map entry_reading_of) c.deref-3.ensures.value) c.deref-5.ensures.value c.in_ok-all.ensures is) c.places_of.ensures
