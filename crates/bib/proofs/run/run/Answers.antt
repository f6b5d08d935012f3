use Rattle.std.proofs.Common.{ap, Err}
use Rattle.bib.specs.Output.{IsAnswer as answer}
use Rattle.bib.proofs.Answers.{lacking_apart}
use Rattle.bib.proofs.run.run.Goals as goal

pub returns-in_default-clause-printed : goal.returns-in_default-clause-printed
returns-in_default-clause-printed g c limit same =
    let p = c.print.ensures.printed limit same in
    (_, p.0, rw p.1 (answer.usage_reported c.in_default.ensures))

pub returns-in-Err-Failed-clause-printed : goal.returns-in-Err-Failed-clause-printed
returns-in-Err-Failed-clause-printed g c limit same =
    let p = c.print-in-Err-Failed.ensures.printed limit same in (
      _,
      p.0,
      rw p.1
          (answer.no_input (c.in-Some.command, c.in-Some.ensures)
          (c.in-Err-Failed.ensures.failed (ap Err c.in-Err-Failed.field-0-is))),
    )

pub returns-in-Err-OutOfMemory-clause-printed : goal.returns-in-Err-OutOfMemory-clause-printed
returns-in-Err-OutOfMemory-clause-printed g c limit same =
    let p = c.print-in-Err-OutOfMemory.ensures.printed limit same in (
      _,
      p.0,
      rw p.1
          (answer.no_memory (c.in-Some.command, c.in-Some.ensures)
          (c.in-Err-OutOfMemory.ensures.same (lacking_apart c.in-Err-OutOfMemory.field-0-is))),
    )

pub returns-in-Ok-answer_to-clause-printed : goal.returns-in-Ok-answer_to-clause-printed
returns-in-Ok-answer_to-clause-printed g c limit same =
    let p = c.print-in-Ok-answer_to.ensures.printed limit same in (
      _,
      p.0,
      rw (p.1, c.deref.ensures)
          (answer.answered c.in-Some.command c.in-Some.ensures (c.in-Ok.ensures.same (λ e. cc)) c.in-Ok.ensures.given
          c.in-Ok-answer_to.ensures),
    )

pub returns-in-Err-clause-printed : goal.returns-in-Err-clause-printed
returns-in-Err-clause-printed g c limit same =
    let p = c.print-in-Err.ensures.printed limit same in
    (_, p.0, rw p.1 (answer.no_memory (c.in-Some.command, c.in-Some.ensures) (c.in-Ok.ensures.same (λ e. cc))))

pub returns-in_default-clause-handed : goal.returns-in_default-clause-handed
returns-in_default-clause-handed g c = record {
  text = _;
  status = _;
  answer = answer.usage_reported c.in_default.ensures;
  printed = c.print.ensures.handed;
}

pub returns-in-Err-Failed-clause-handed : goal.returns-in-Err-Failed-clause-handed
returns-in-Err-Failed-clause-handed g c =
    let failed = c.in-Err-Failed.ensures.failed (ap Err c.in-Err-Failed.field-0-is) in
    record {
      text = _;
      status = _;
      answer = answer.no_input (c.in-Some.command, c.in-Some.ensures) failed;
      printed = c.print-in-Err-Failed.ensures.handed;
    }

pub returns-in-Err-OutOfMemory-clause-handed : goal.returns-in-Err-OutOfMemory-clause-handed
returns-in-Err-OutOfMemory-clause-handed g c =
    let read = c.in-Err-OutOfMemory.ensures.same (lacking_apart c.in-Err-OutOfMemory.field-0-is) in
    record {
      text = _;
      status = _;
      answer = answer.no_memory (c.in-Some.command, c.in-Some.ensures) read;
      printed = c.print-in-Err-OutOfMemory.ensures.handed;
    }

pub returns-in-Ok-answer_to-clause-handed : goal.returns-in-Ok-answer_to-clause-handed
returns-in-Ok-answer_to-clause-handed g c = record {
  text = _;
  status = _;
  answer =
      rw c.deref.ensures
      (answer.answered c.in-Some.command c.in-Some.ensures (c.in-Ok.ensures.same (λ e. cc)) c.in-Ok.ensures.given
      c.in-Ok-answer_to.ensures);
  printed = c.print-in-Ok-answer_to.ensures.handed;
}

pub returns-in-Err-clause-handed : goal.returns-in-Err-clause-handed
returns-in-Err-clause-handed g c = record {
  text = _;
  status = _;
  answer = answer.no_memory (c.in-Some.command, c.in-Some.ensures) (c.in-Ok.ensures.same (λ e. cc));
  printed = c.print-in-Err.ensures.handed;
}
