use Rattle.std.proofs.Common.{ap, ◌∙◌, length}
use Rattle.std.specs.Prelude.{◌==◌}
use Rattle.std.proofs.lemmas.Str.Ascii.{trim_ascii_start_is}
use Rattle.edit_format.proofs.GapFacts.{trimmed_blank}
use Rattle.edit_sort.proofs.gaps.is_blank.Goals as goal

pub returns : goal.returns
returns c =
    c.is_empty.ensures
    ∙ ap (λ t. length t == 0)
    (trim_ascii_start_is c.args.text.now c.trim_ascii_start.result.now c.trim_ascii_start.ensures.value)
    ∙ trimmed_blank c.args.text.now
