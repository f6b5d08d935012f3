use Rattle.std.proofs.Common.{◌∙◌, ap, get_or, subst}
use Rattle.bib_abbreviations.specs.Abbreviations.{Definitions, given_by}
use Rattle.bib_syntax.specs.Views.{entry_reading_of}
use Rattle.edit_orders.specs.Fields.{IsValueOf}
use Rattle.edit_orders.specs.declared.order.Direction.TheVariants.{Ascending}
use Rattle.edit_orders.specs.declared.order.Property.TheVariants.{Key}
use Rattle.edit_orders.specs.declared.order.SortBy.{SortBy}
use Rattle.edit_orders.proofs.FieldFacts.{AllZip-more}
use Rattle.edit_orders.proofs.places.entry_values.Goals as goal

-- any property, used as the default of `get_or`
abbrev any : SortBy
any = record { property = Key; direction = Ascending }

pub order-preserved : goal.order-preserved
order-preserved c =
    let e = entry_reading_of c.args.entry.now in
    let value =
    subst (λ (d : Definitions). IsValueOf d e (get_or c.args.order.now c.order.by-index any).property c.in_ok-entry_value.field-0)
    (ap given_by c.order.invariant.0) c.in_ok-entry_value.ensures.value in (
      c.in_ok-entry_value.ensures.same ∙ c.order.invariant.0,
      AllZip-more (λ (by : SortBy) v. IsValueOf (given_by c.args.reader.now) e by.property v) c.args.order.now c.order.by-index any
          c.order.values.items c.push.new.self.items c.in_ok-entry_value.field-0 c.order-test.true c.order.invariant.1 value
          c.in_ok-push.ensures.items,
    )
