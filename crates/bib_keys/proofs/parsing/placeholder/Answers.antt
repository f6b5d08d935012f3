use Rattle.bib_keys.proofs.PatternFacts.{placeholder_is}
use Rattle.bib_keys.proofs.parsing.placeholder.Goals as goal

pub returns-in_err-name : goal.returns-in_err-name
returns-in_err-name c = rw c.from_residual.ensures (λ part is. c.in_err-name.ensures is.name is.count is.named)

pub returns : goal.returns
returns c = placeholder_is c.args.text.now _ _ c.part_named.result c.in_ok-name.ensures c.part_named.ensures
