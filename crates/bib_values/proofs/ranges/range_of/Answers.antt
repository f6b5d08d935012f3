use Rattle.std.proofs.Common.{◌∙◌, sym, ap}
use Rattle.bib_values.specs.Ranges.{leading_number, goes_on_with, starts_with, range_of}
use Rattle.bib_values.proofs.ranges.range_of.Goals as goal

pub returns-in_default : goal.returns-in_default
unfolding range_of
returns-in_default c = sym (ap starts_with (ap leading_number (sym c.after_white.ensures) ∙ c.in_default.ensures))

pub returns : goal.returns
unfolding range_of
returns c =
    c.goes_on_with.ensures ∙ ap (goes_on_with c.in-Some.found.0) c.after_white-2.ensures
    ∙ sym (ap starts_with (ap leading_number (sym c.after_white.ensures) ∙ c.in-Some.ensures))
