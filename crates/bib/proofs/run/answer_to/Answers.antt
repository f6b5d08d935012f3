use Rattle.std.proofs.lemmas.Bool.{false≢true}
use Rattle.bib.proofs.Answers.{no_text_shown}
use Rattle.bib.proofs.run.answer_to.Goals as goal

pub returns : goal.returns
returns c =
    rw c.in_ok-from_str-in-Err.ensures.ok
    (no_text_shown c.args.command c.args.bytes.items (λ utf8. false≢true (c.in-Err.ensures.succeeds utf8)))
