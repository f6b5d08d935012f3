use Rattle.bib.specs.Arguments.{IsStartAnswer as answer}
use Rattle.bib.proofs.start.start.Goals as goal

pub returns-in-Ok-clause-printed : goal.returns-in-Ok-clause-printed
returns-in-Ok-clause-printed g c limit same =
    let p = c.run.ensures.printed limit same in
    (p.0, p.1, answer.answered c.in-Ok.ensures.known (rw (c.deref.ensures.value, c.in-Ok.ensures.words) at p.2))

pub returns-in-Err-clause-printed : goal.returns-in-Err-clause-printed
returns-in-Err-clause-printed g c limit same =
    let p = c.print.ensures.printed limit same in
    (_, p.0, rw p.1 (answer.no_memory c.in-Err.ensures.lacking))

pub returns-in-Ok-clause-handed : goal.returns-in-Ok-clause-handed
returns-in-Ok-clause-handed g c =
    let ran = c.run.ensures.handed in
    record {
      text = ran.text;
      status = ran.status;
      answer = answer.answered c.in-Ok.ensures.known (rw (c.deref.ensures.value, c.in-Ok.ensures.words) at ran.answer);
      printed = ran.printed;
    }

pub returns-in-Err-clause-handed : goal.returns-in-Err-clause-handed
returns-in-Err-clause-handed g c = record {
  text = _;
  status = _;
  answer = answer.no_memory c.in-Err.ensures.lacking;
  printed = c.print.ensures.handed;
}
