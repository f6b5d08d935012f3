use Rattle.std.proofs.Common.{subst, arith}
use Rattle.bibkit_core.specs.Answered.{CantReadDocument, HasFailed, IsCallAnswer}
use Rattle.bibkit_core.specs.Outcomes.{HasPrinted}
use Rattle.bibkit_core.specs.Running.{names_given}
use Rattle.bibkit_core.specs.Steps.{HasStopped}
use Rattle.bibkit_core.proofs.AnswerFacts.{printed_bound, refused_failed, unread_failed}
use Rattle.bibkit_core.proofs.run.run.Goals as goal

pub returns-in-Ok-clause-status : goal.returns-in-Ok-clause-status
returns-in-Ok-clause-status g c = let bound = printed_bound c.in-Ok.ensures.printed in omega (arith, bound)

pub returns-in-Ok-clause-printed : goal.returns-in-Ok-clause-printed
returns-in-Ok-clause-printed g c below =
    subst
    (λ l.
    HasPrinted g.K.Sink.taken
    (IsCallAnswer g.F.Files.reads c.args.files.now (names_given l) c.args.call.now.request)
    c.args.output.now c.answer.new.output c.in-Ok.status) c.deref.ensures.value c.in-Ok.ensures.printed

pub returns-in-Ok-clause-failed : goal.returns-in-Ok-clause-failed
returns-in-Ok-clause-failed g c is =
    let has =
    subst
    (λ l.
    HasPrinted g.K.Sink.taken
    (IsCallAnswer g.F.Files.reads c.args.files.now (names_given l) c.args.call.now.request)
    c.args.output.now c.answer.new.output c.in-Ok.status) c.deref.ensures.value c.in-Ok.ensures.printed in
    HasFailed.unread
    (subst
    (λ s.
    HasPrinted g.K.Sink.taken
    (IsCallAnswer g.F.Files.reads c.args.files.now (names_given c.args.call.now.names.items)
    c.args.call.now.request) c.args.output.now c.answer.new.output s) is has)
    c.in-Ok.ensures.same

pub returns-in-Ok-clause-refused : goal.returns-in-Ok-clause-refused
returns-in-Ok-clause-refused g c differs = absurd (differs c.in-Ok.ensures.same)

pub returns-in-Err-Refused-clause-failed : goal.returns-in-Err-Refused-clause-failed
returns-in-Err-Refused-clause-failed g c is =
    let stopped = subst (λ stop. HasStopped g.K.Sink.taken g.K.Sink.refusals g.K.Sink.hands_over
    (IsCallAnswer g.F.Files.reads c.args.files.now (names_given c.deref.result.now) c.args.call.now.request)
    (CantReadDocument g.F.Files.reads c.args.files.now c.args.call.now.request) c.args.output.now c.answer.new.output
    stop) c.in-Err-Refused.field-0-is c.in-Err-Refused.ensures.stopped in
    subst
    (λ l.
    HasFailed g.F.Files.reads g.K.Sink.taken g.K.Sink.refusals g.K.Sink.hands_over c.args.files.now
    (names_given l) c.args.call.now.request c.args.output.now c.answer.new.output) c.deref.ensures.value
    (refused_failed stopped)

pub returns-in-Err-NoDocument-clause-failed : goal.returns-in-Err-NoDocument-clause-failed
returns-in-Err-NoDocument-clause-failed g c is =
    let stopped = subst (λ stop. HasStopped g.K.Sink.taken g.K.Sink.refusals g.K.Sink.hands_over
    (IsCallAnswer g.F.Files.reads c.args.files.now (names_given c.deref.result.now) c.args.call.now.request)
    (CantReadDocument g.F.Files.reads c.args.files.now c.args.call.now.request) c.args.output.now c.answer.new.output
    stop) c.in-Err-NoDocument.field-0-is c.in-Err-NoDocument.ensures.stopped in
    subst
    (λ l.
    HasFailed g.F.Files.reads g.K.Sink.taken g.K.Sink.refusals g.K.Sink.hands_over c.args.files.now
    (names_given l) c.args.call.now.request c.args.output.now c.answer.new.output) c.deref.ensures.value
    (unread_failed stopped)
