use Rattle.std.proofs.Common.{reverse, arith}
use Rattle.std.proofs.lemmas.Result.{err_from_is_err_and}
use Rattle.std.proofs.lemmas.List.{nil_from_length}
use Rattle.bib_abbreviations.proofs.ExpansionFacts.{expanding_first, expanding_done, sound_done, expanding_closed, expanding_opened, expanding_said, sound_within}
use Rattle.bib_abbreviations.proofs.PieceFacts.{expanding_refused, less_opened, less_closed}
use Rattle.bib_contents.proofs.StackFacts.{reversed_push}
use Rattle.bib_abbreviations.proofs.abbreviations.Expansion.run.Goals as goal

pub frames-init : goal.frames-init
frames-init c =
    rw c.new-frames.ensures.items
    (expanding_first c.args.memo.now c.args.first c.requires.sound c.requires.defined c.requires.start)

pub returns-in_default-pop-clause-said : goal.returns-in_default-pop-clause-said
returns-in_default-pop-clause-said c =
    let none = nil_from_length c.frames.frames.items (omega (arith, c.in_default-pop.ensures.cases.0, c.frames.frames.ok.0)) in
    let ends = nil_from_length c.frames.frame.rest.now c.in_default.ensures.cases in
    expanding_done c.close.new.self (rw none at c.frames.invariant) ends c.in_ok-close.ensures.values c.requires.defined

pub returns-in_default-pop-clause-sound : goal.returns-in_default-pop-clause-sound
returns-in_default-pop-clause-sound c =
    let none = nil_from_length c.frames.frames.items (omega (arith, c.in_default-pop.ensures.cases.0, c.frames.frames.ok.0)) in
    let ends = nil_from_length c.frames.frame.rest.now c.in_default.ensures.cases in
    sound_done c.close.new.self (rw none at c.frames.invariant) ends c.in_ok-close.ensures.values c.in_ok-close.ensures.names

pub frames-smaller-in_default : goal.frames-smaller-in_default
frames-smaller-in_default c =
    let reversed = reversed_push c.frames.frames.items c.pop.new.self.items c.in-Some-pop.below c.in-Some-pop.ensures.items in
    less_closed c.args.self.definitions c.close.new.self c.frames.memo c.frames.frame.rest.now c.in-Some-pop.below
    (reverse c.pop.new.self.items)
    (reverse c.frames.frames.items) c.frames.frame.name.now _ reversed c.in_ok-close.ensures.names

pub frames-preserved-in_default : goal.frames-preserved-in_default
frames-preserved-in_default c =
    let reversed = reversed_push c.frames.frames.items c.pop.new.self.items c.in-Some-pop.below c.in-Some-pop.ensures.items in
    let ends = nil_from_length c.frames.frame.rest.now c.in_default.ensures.cases in
    expanding_closed c.close.new.self (rw reversed at c.frames.invariant) ends c.in_ok-close.ensures.values c.in_ok-close.ensures.names

pub take-requires : goal.take-requires
take-requires c = record { within = sound_within c.frames.invariant.sound }

pub returns-in_err-above-clause-refused : goal.returns-in_err-above-clause-refused
returns-in_err-above-clause-refused c =
    let p = err_from_is_err_and c.from_residual-in_err-above.result c.from_residual-in_err-above.ensures.1 in
    let error = c.in_err-above.ensures.refused _ c.frames.invariant.sound in
    rw (p.1, p.2)
    (expanding_refused _ c.in-Some.piece.now c.in-Some.rest.now c.frames.invariant c.in-Some.ensures.cases.0
    c.requires.defined error)

pub frames-smaller-in-Some-2 : goal.frames-smaller-in-Some-2
frames-smaller-in-Some-2 c =
    let taken = rw c.in-Some-2.is at (c.in_ok-above.ensures.taken _ c.frames.invariant.sound) in
    let reversed = reversed_push c.push.new.self.items c.frames.frames.items _ c.in_ok-push.ensures.items in
    less_opened c.args.self.definitions c.take.new.memo c.frames.memo c.frames.frame.rest.now c.in-Some.piece.now _ c.in-Some-2.above
    (reverse c.frames.frames.items) (reverse c.push.new.self.items) taken.0.text taken.2 c.in-Some.ensures.cases.0 reversed

pub frames-preserved-in-Some-2 : goal.frames-preserved-in-Some-2
frames-preserved-in-Some-2 c =
    let taken = rw c.in-Some-2.is at (c.in_ok-above.ensures.taken _ c.frames.invariant.sound) in
    let reversed = reversed_push c.push.new.self.items c.frames.frames.items _ c.in_ok-push.ensures.items in
    rw reversed
    (expanding_opened c.take.new.memo c.in-Some.piece.now c.in-Some.rest taken.0 c.in-Some-2.above
    c.frames.invariant c.in-Some.ensures.cases.0 taken.1 taken.2)

pub frames-preserved : goal.frames-preserved
frames-preserved c =
    let taken = rw c.in_default-2.is at (c.in_ok-above.ensures.taken _ c.frames.invariant.sound) in
    expanding_said c.take.new.memo c.in-Some.piece.now c.in-Some.rest c.frames.invariant c.in-Some.ensures.cases.0 taken.0 taken.1
