use Rattle.std.proofs.Common.{◌∙◌}
use Rattle.bib_values.proofs.NumberFacts.{decimal_from_parse}
use Rattle.bib_from_ris.proofs.dates.number_in.Goals as goal

pub returns : goal.returns
returns c = c.ok.ensures.value ∙ decimal_from_parse c.args.text.now c.parse.result c.parse.ensures.value.0
