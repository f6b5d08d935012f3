use Rattle.std.proofs.lemmas.Result.{IfOk-weaker}
use Rattle.biblatex_c.proofs.exporting.bibliography_as.Goals as goal

pub returns-clause-text : goal.returns-clause-text
returns-clause-text c = IfOk-weaker c.entries_as.result _ _ (λ text is. record {
  bibliography = c.in_ok-bibliography.bibliography;
  of_text = c.in_ok-bibliography.ensures.loaded;
  is = is;
}) c.entries_as.ensures.text
