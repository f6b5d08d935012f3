use Rattle.std.proofs.Common.{refl, inr, rules}
use Rattle.std.specs.Str.{chars}
use Rattle.bib_contents.specs.Progress.{left}
use Rattle.bib_contents.proofs.ArgumentReading.{fails_closing, read_text, read_math, read_opening, read_closing}
use Rattle.bib_contents.proofs.FrameFacts.{applied_shorter}
use Rattle.bib_contents.proofs.ReaderFacts.{unit_shorter}
use Rattle.bib_contents.proofs.arguments.Frame.take.Goals as goal
use Rattle.bib_contents.proofs.arguments.Frame.take.Goals.{in-Shown+in_ok-write_unit-in-Shown, in-Formula+in_ok-write_math-in-Formula, in-Opening, in-Closing+else-self-eq0}

pub returns-in-Applied-clause-taken : goal.returns-in-Applied-clause-taken
returns-in-Applied-clause-taken c = record {
  read = search rules;
  shorter = λ before low one stands. (
    applied_shorter (chars c.in-Applied.name.now) (chars c.in-Applied.field-1.now) (left c.in-Applied.inside) before
        (left c.args.self.now.s) (rw c.in-Applied.is at one),
    rw c.in-Applied.is at stands,
  );
  refused = search rules;
}

pub returns-then-self-eq0-clause-taken : goal.returns-then-self-eq0-clause-taken
returns-then-self-eq0-clause-taken c = record {
  read = search rules;
  shorter = search rules;
  refused = inr (λ before one whole base read.
      fails_closing read (rw c.in-Closing.is at one) c.if-self-eq0.true c.closing_brace_error.ensures.kind);
}

pub returns-clause-taken : goal.returns-clause-taken
returns-clause-taken c = record {
  read = λ whole base before one read. elim c.match-unit.branch [
    | in-Shown+in_ok-write_unit-in-Shown w ↦ rw (w.text-is, w.self-is)
        (read_text w.in-Shown.shown read (rw w.in-Shown.is at one)
        (rw w.is_flat_here.ensures at w.in_ok-write_unit-in-Shown.ensures))
    | in-Formula+in_ok-write_math-in-Formula w ↦ rw (w.text-is, w.self-is)
        (read_math (chars w.in-Formula.math.now) read (rw w.in-Formula.is at one) w.in_ok-write_math-in-Formula.ensures)
    | in-Opening w ↦ rw (w.text-is, w.self-is) (read_opening read (rw w.in-Opening.is at one) refl)
    | in-Closing+else-self-eq0 w ↦ rw (w.text-is, w.self-is) (read_closing read (rw w.in-Closing.is at one) w.if-self-eq0.false refl)
  ];
  shorter = λ before low one stands.
      let shorter = (unit_shorter one).0 in
      elim c.match-unit.branch [
        | in-Shown+in_ok-write_unit-in-Shown w ↦ rw w.self-is shorter
        | in-Formula+in_ok-write_math-in-Formula w ↦ rw w.self-is shorter
        | in-Opening w ↦ rw w.self-is shorter
        | in-Closing+else-self-eq0 w ↦ rw w.self-is shorter
      ];
  refused = search rules;
}
