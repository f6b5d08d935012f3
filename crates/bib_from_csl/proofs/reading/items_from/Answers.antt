use Rattle.std.proofs.Common.{◌≡◌, ◌+◌, ◌∷◌, drop, map, sym, ap, ◌∙◌}
use Rattle.json.specs.Value.{value_view}
use Rattle.bib_text.proofs.ListFacts.{drop_is}
use Rattle.bib_from_csl.specs.GivenItems.{item_in, items_read_from}
use Rattle.bib_from_csl.specs.declared.reading.ItemReading.TheVariants.{Says}
use Rattle.bib_from_csl.proofs.ReadingFacts.{after_items, item_passed}
use Rattle.bib_from_csl.proofs.reading.items_from.Goals as goal

pub elements-preserved : goal.elements-preserved
elements-preserved c =
    let values = c.args.values.now in
    let k = c.elements.value-index in
    let value = c.value-item.result in
    let rest = map value_view (drop (k + 1) values) in
    let cut : drop k values ≡ value ∷ drop (k + 1) values = drop_is values k value c.elements-test.true c.value-item.is in
    let says : item_in (value_view value) ≡ Says c.in-Says.item = sym c.in_ok-item.ensures ∙ c.in-Says.is in (
      ap (λ l. after_items l (items_read_from (c.elements.index + 1) rest)) c.in_ok-push-in-Says.ensures.items
          ∙ sym (item_passed c.elements.items c.elements.index (value_view value) rest c.in-Says.item says)
          ∙ sym (ap (λ l. after_items c.elements.items (items_read_from c.elements.index (map value_view l))) cut)
          ∙ c.elements.invariant.0,
      ap (λ n. n + 1) c.elements.invariant.1,
    )
