use Rattle.bib_select.proofs.OneCutFacts.{one_cut}
use Rattle.bib_select.proofs.ParseFacts.{no_error, one_condition}
use Rattle.bib_select.proofs.laws.a_text_is_one_condition.Goals as goal

pub returns : goal.returns
returns c = record {
  tokens = λ place tokens others first second. one_cut first second;
  condition = one_condition;
  no_error = no_error;
}
