use Rattle.std.proofs.Common.{◌∙◌, ap, subst}
use Rattle.bib_abbreviations.specs.Abbreviations.{Definitions, given_by}
use Rattle.bib_syntax.specs.Views.{entry_reading_of}
use Rattle.edit_orders.specs.Places.{AreValuesOf}
use Rattle.edit_orders.proofs.FieldFacts.{AllZip-more_of}
use Rattle.edit_orders.proofs.places.all_values.Goals as goal

pub entries-preserved : goal.entries-preserved
entries-preserved c =
    let order = c.args.order.now in
    let one =
    subst (λ (d : Definitions). AreValuesOf d order (entry_reading_of c.entry-item.result) c.in_ok-entry_values.field-0)
    (ap given_by c.entries.invariant.0)
    c.in_ok-entry_values.ensures.values in (
      c.in_ok-entry_values.ensures.same ∙ c.entries.invariant.0,
      AllZip-more_of (AreValuesOf (given_by c.args.reader.now) order) entry_reading_of c.args.entries.now c.entries.entry-index
          c.entry-item.result
          c.entries.all.items c.push.new.self.items c.in_ok-entry_values.field-0 c.entries-test.true c.entries.invariant.1
          (subst (λ e. AreValuesOf (given_by c.args.reader.now) order (entry_reading_of e) c.in_ok-entry_values.field-0)
          c.entry-item.is one)
          c.in_ok-push.ensures.items,
    )
