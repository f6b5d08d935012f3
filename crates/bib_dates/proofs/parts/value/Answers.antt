use Rattle.std.proofs.Common.{◌∙◌, arith}
use Rattle.bib_dates.proofs.Digits.{parse_value, two, three, four}
use Rattle.bib_dates.proofs.parts.value.Goals as goal

pub returns-clause-value : goal.returns-clause-value
returns-clause-value c =
    c.unwrap_or.ensures
    ∙ parse_value c.args.digits.now c.parse.result c.requires.digits c.requires.some c.requires.count
    c.parse.ensures.value.0

pub returns-clause-below : goal.returns-clause-below
returns-clause-below c =
    let value =
    c.unwrap_or.ensures
    ∙ parse_value c.args.digits.now c.parse.result c.requires.digits c.requires.some c.requires.count
    c.parse.ensures.value.0 in
    omega (arith, value, four c.args.digits.now c.requires.digits c.requires.count)

pub returns-clause-short : goal.returns-clause-short
returns-clause-short c few =
    let value =
    c.unwrap_or.ensures
    ∙ parse_value c.args.digits.now c.parse.result c.requires.digits c.requires.some c.requires.count
    c.parse.ensures.value.0 in
    omega (arith, value, two c.args.digits.now c.requires.digits few)

pub returns-clause-shorter : goal.returns-clause-shorter
returns-clause-shorter c few =
    let value =
    c.unwrap_or.ensures
    ∙ parse_value c.args.digits.now c.parse.result c.requires.digits c.requires.some c.requires.count
    c.parse.ensures.value.0 in
    omega (arith, value, three c.args.digits.now c.requires.digits few)
