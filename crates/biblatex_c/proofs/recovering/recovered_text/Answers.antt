use Rattle.std.proofs.lemmas.Result.{IfOk-weaker}
use Rattle.biblatex_c.proofs.recovering.recovered_text.Goals as goal

pub returns-clause-text : goal.returns-clause-text
returns-clause-text c = IfOk-weaker c.text_in.result _ _ (λ text is. record {
  bibliography = c.in_ok-found.found.bibliography;
  origins = c.in_ok-found.found.origins.items;
  skipped = c.in_ok-found.found.skipped.items;
  errors = c.in_ok-found.found.errors.items;
  recovered = c.in_ok-found.ensures;
  is = is;
}) c.text_in.ensures.text
