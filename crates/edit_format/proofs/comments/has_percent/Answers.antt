use Rattle.std.proofs.Common.{ap, ◌∙◌, arith}
use Rattle.std.specs.Prelude.{◌==◌}
use Rattle.std.specs.List.{list_any}
use Rattle.std.proofs.lemmas.Str.Pattern.{contains_char}
use Rattle.edit_format.proofs.PercentFacts.{stands_among}
use Rattle.edit_format.proofs.comments.has_percent.Goals as goal

pub returns : goal.returns
returns c =
    stands_among 37 c.range.result.now c.contains.result
    (contains_char 37 c.range.result.now c.contains.result c.contains.ensures.cases (omega arith))
    ∙ ap (list_any (λ b. b == 37)) c.range.ensures.value
