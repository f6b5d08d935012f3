use Rattle.std.proofs.Common.{subst}
use Rattle.std.specs.String.{string_bytes}
use Rattle.bib_syntax.specs.Reading.{FileReading}
use Rattle.edit_orders.specs.Orders.{order_parts}
use Rattle.edit_orders.specs.Places.{ArePlacesIn}
use Rattle.edit_sort.specs.Sorted.{IsReadSorted, IsSortedText}
use Rattle.bibkit_edits.proofs.EditedFacts.{order_made}
use Rattle.bibkit_edits.proofs.editing.sort_document.Goals as goal

pub returns-clause-made : goal.returns-clause-made
returns-clause-made c =
    let d = c.args.document.now in
    let new = string_bytes c.in_ok-sort_entries.field-0 in
    let is = c.deref.ensures.value in
    order_made c.args.order d c.in_ok-places.places.items new
    (subst (λ (says : FileReading). ArePlacesIn (order_parts c.args.order) says c.in_ok-places.places.items)
    c.raw.ensures.says c.in_ok-places.ensures)
    (subst (λ ps. IsSortedText d ps new) is c.in_ok-sort_entries.ensures.text)
    (subst (λ ps. IsReadSorted d ps new) is c.in_ok-sort_entries.ensures.read)
