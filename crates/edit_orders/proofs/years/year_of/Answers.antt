use Rattle.std.proofs.Common.{◌∙◌, sym}
use Rattle.edit_orders.proofs.YearFacts.{before_digits, some_left, year_after, year_before, year_is, year_none}
use Rattle.edit_orders.proofs.years.year_of.Goals as goal

pub split_at-requires : goal.split_at-requires
split_at-requires c = before_digits c.args.text.now _ c.start_len.ensures

pub number-requires-clause-some : goal.number-requires-clause-some
number-requires-clause-some c = some_left c.first_digits-digits.result.now (sym c.is_empty.ensures ∙ c.if-is_empty.false)

pub number-requires-2-clause-some : goal.number-requires-2-clause-some
number-requires-2-clause-some c = some_left c.first_digits-digits.result.now (sym c.is_empty.ensures ∙ c.if-is_empty.false)

pub returns-then-is_empty : goal.returns-then-is_empty
returns-then-is_empty c =
    year_none c.args.text.now c.split_at.result.0.now c.first_digits-digits.result.now
    (year_is c.args.text.now c.split_at.result.0.now c.split_at.result.1.now c.first_digits-digits.result.now
    c.start_len.result c.start_len.ensures c.split_at.ensures.front
    c.split_at.ensures.back c.first_digits-digits.ensures.value)
    (sym c.is_empty.ensures ∙ c.if-is_empty.true)

pub returns-then-eq : goal.returns-then-eq
returns-then-eq c =
    year_before c.args.text.now c.split_at.result.0.now c.first_digits-digits.result.now c.number.result
    (year_is c.args.text.now c.split_at.result.0.now c.split_at.result.1.now c.first_digits-digits.result.now
    c.start_len.result c.start_len.ensures c.split_at.ensures.front
    c.split_at.ensures.back c.first_digits-digits.ensures.value)
    (sym c.eq.ensures ∙ c.if-eq.true)
    (some_left c.first_digits-digits.result.now (sym c.is_empty.ensures ∙ c.if-is_empty.false)) c.number.ensures

pub returns : goal.returns
returns c =
    year_after c.args.text.now c.split_at.result.0.now c.first_digits-digits.result.now c.number-2.result
    (year_is c.args.text.now c.split_at.result.0.now c.split_at.result.1.now c.first_digits-digits.result.now
    c.start_len.result c.start_len.ensures c.split_at.ensures.front
    c.split_at.ensures.back c.first_digits-digits.ensures.value)
    (sym c.eq.ensures ∙ c.if-eq.false)
    (some_left c.first_digits-digits.result.now (sym c.is_empty.ensures ∙ c.if-is_empty.false)) c.number-2.ensures
