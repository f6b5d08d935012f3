use Rattle.std.proofs.Common.{arith}
use Rattle.std.proofs.lemmas.Str.Pattern.{contains_char}
use Rattle.edit_format.proofs.PercentFacts.{stands_among}
use Rattle.edit_format.proofs.delimiters.has_quote.Goals as goal

pub returns : goal.returns
returns c =
    stands_among 34 c.args.content.now c.contains.result
    (contains_char 34 c.args.content.now c.contains.result c.contains.ensures.cases (omega arith))
