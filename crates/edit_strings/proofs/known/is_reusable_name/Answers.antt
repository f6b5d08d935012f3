use Rattle.std.proofs.Common.{ap, ◌∙◌}
use Rattle.std.specs.Prelude.{◌==◌, ◌&&◌, not}
use Rattle.edit_strings.specs.Collected.{has_digit_first, is_month}
use Rattle.edit_strings.specs.Collecting.{name_count_in}
use Rattle.edit_strings.proofs.known.is_reusable_name.Goals as goal

pub returns : goal.returns
returns c = λ says counted.
    let name = c.args.name.now in
    c.is_counted_once-is.ensures
    ∙ ap (λ n. not (is_month name) && not (has_digit_first name) && (n == 1))
    (ap (name_count_in c.args.counts.now) (c.as_str.ensures.value ∙ c.in_ok-lowercase.ensures.ok) ∙ counted name)
