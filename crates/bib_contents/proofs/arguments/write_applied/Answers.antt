use Rattle.std.proofs.Common.{arith, ◌∙◌, sym, ap, inl, inr, length, ◌++◌}
use Rattle.std.specs.Prelude.{encode_utf8_all, string_bytes}
use Rattle.std.specs.Str.{chars}
use Rattle.std.proofs.lemmas.Result.{err_from_is_err_and}
use Rattle.std.proofs.lemmas.Str.{IsUtf8-string_bytes}
use Rattle.std.proofs.lemmas.List.{nil_from_length}
use Rattle.bib_contents.specs.Arguments.{argument_written}
use Rattle.bib_contents.specs.Effects.{before_argument}
use Rattle.bib_contents.specs.Progress.{left}
use Rattle.bib_contents.proofs.ArgumentReading.{name_plain}
use Rattle.bib_contents.proofs.EffectFacts.{wrote_from}
use Rattle.bib_contents.proofs.StackFacts.{reversed_push}
use Rattle.bib_contents.proofs.FrameFacts.{weight, begun_here, begun_on, read_begun, reading_first, reading_on, reading_follows, reading_below, reading_done, stays_wider, fails_up}
use Rattle.bib_contents.proofs.arguments.write_applied.Goals as goal

pub units-init : goal.units-init
units-init c =
    let opened = c.in_ok-frame.ensures in
    let utf8 = IsUtf8-string_bytes c.args.text.now in
    let begun =
    begun_here {low = c.args.inside.at} {high = length c.args.inside.text} opened.frame.0 opened.frame.1 opened.made
    opened.fit (name_plain (chars c.args.name.now) c.requires.named) opened.wrote.0 opened.wrote.1 utf8
    (omega arith) (omega arith) c.requires.place in
    rw c.new-frames.ensures.items
    (reading_first begun (rw opened.frame.0 c.in_ok-ends.ensures) opened.frame.2
    (read_begun c.in_ok-frame.frame (chars c.args.name.now) _ _ opened.frame.0 opened.frame.1 opened.wrote.0
    utf8))

pub units-preserved-in-Read : goal.units-preserved-in-Read
units-preserved-in-Read c =
    let inv = c.units.invariant in
    let read =
    rw c.in-Read.is at
    (c.in_ok-next.ensures.ok.read inv.whole (inv.under ++ before_argument c.units.frame.effect inv.name) inv.read) in
    reading_on inv c.in_ok-next.ensures.ok.kept c.in_ok-next.ensures.ok.right read

pub units-smaller-in-Read : goal.units-smaller-in-Read
units-smaller-in-Read c =
    let shorter = rw c.in-Read.is at c.in_ok-next.ensures.ok.shorter in
    omega (arith, shorter)

pub units-preserved-in-Follows : goal.units-preserved-in-Follows
units-preserved-in-Follows c =
    let inv = c.units.invariant in
    let read =
    rw c.in-Follows.is at
    (c.in_ok-next.ensures.ok.read inv.whole (inv.under ++ before_argument c.units.frame.effect inv.name) inv.read) in
    let shorter = rw c.in-Follows.is at c.in_ok-next.ensures.ok.shorter in
    let opened = c.in_ok-above-in-Follows.ensures in
    let reversed = reversed_push c.push.new.self.items c.units.frames.items _ c.in_ok-push-in-Follows.ensures.items in
    rw reversed
    (reading_follows inv c.in_ok-next.ensures.ok.kept c.in_ok-next.ensures.ok.right (IsUtf8-string_bytes c.next.new.text)
    read.0 read.1 read.2 read.3 shorter.1 opened.frame.0 opened.frame.1
    (opened.frame.2 ∙ c.is_flat_here.ensures) opened.made opened.fit opened.wrote.0 opened.wrote.1)

pub units-smaller-in-Follows : goal.units-smaller-in-Follows
units-smaller-in-Follows c =
    let shorter = rw c.in-Follows.is at c.in_ok-next.ensures.ok.shorter in
    let opened = c.in_ok-above-in-Follows.ensures in
    let reversed = reversed_push c.push.new.self.items c.units.frames.items _ c.in_ok-push-in-Follows.ensures.items in
    let size = ap (λ s. length (left s)) opened.frame.0 in
    rw reversed (omega (arith, shorter.0, size))

pub end-requires : goal.end-requires
end-requires c =
    let inv = c.units.invariant in
    let read =
    rw c.in-End.is at
    (c.in_ok-next.ensures.ok.read inv.whole (inv.under ++ before_argument c.units.frame.effect inv.name) inv.read) in
    let kept = c.in_ok-next.ensures.ok.kept in
    let begun = begun_on inv.begun kept c.in_ok-next.ensures.ok.right in
    let said = argument_written c.next.new.self.is_flat read.0.atoms in
    let now = read.0.wrote ∙ ap (λ e. encode_utf8_all ((inv.under ++ before_argument e inv.name) ++ said)) (sym kept.effect) in
    record { fit = begun.fit; begun = (inv.under ++ before_argument c.next.new.self.effect inv.name, said, begun.start, now) }

pub returns-in_default-clause-read : goal.returns-in_default-clause-read
returns-in_default-clause-read c =
    let none = nil_from_length c.units.frames.items (omega (arith, c.in_default.ensures.cases.0, c.units.frames.ok.0)) in
    let inv = rw none at c.units.invariant in
    let read =
    rw c.in-End.is at
    (c.in_ok-next.ensures.ok.read inv.whole (inv.under ++ before_argument c.units.frame.effect inv.name) inv.read) in
    let kept = c.in_ok-next.ensures.ok.kept in
    let begun = begun_on inv.begun kept c.in_ok-next.ensures.ok.right in
    let said = argument_written c.next.new.self.is_flat read.0.atoms in
    let now = read.0.wrote ∙ ap (λ e. encode_utf8_all ((inv.under ++ before_argument e inv.name) ++ said)) (sym kept.effect) in
    let done = reading_done inv kept read.0 (c.in_ok-end-in-End.ensures inv.under inv.name said begun.start now) in
    (done.0, done.1, wrote_from (string_bytes c.args.text.now) _ _ (IsUtf8-string_bytes c.args.text.now) done.2)

pub units-preserved : goal.units-preserved
units-preserved c =
    let reversed = reversed_push c.units.frames.items c.pop.new.self.items c.in-Some.below c.in-Some.ensures.items in
    let inv = rw reversed at c.units.invariant in
    let read =
    rw c.in-End.is at
    (c.in_ok-next.ensures.ok.read inv.whole (inv.under ++ before_argument c.units.frame.effect inv.name) inv.read) in
    let kept = c.in_ok-next.ensures.ok.kept in
    let begun = begun_on inv.begun kept c.in_ok-next.ensures.ok.right in
    let said = argument_written c.next.new.self.is_flat read.0.atoms in
    let now = read.0.wrote ∙ ap (λ e. encode_utf8_all ((inv.under ++ before_argument e inv.name) ++ said)) (sym kept.effect) in
    reading_below inv kept read.0 (c.in_ok-end-in-End.ensures inv.under inv.name said begun.start now)

pub units-smaller : goal.units-smaller
units-smaller c =
    let reversed = reversed_push c.units.frames.items c.pop.new.self.items c.in-Some.below c.in-Some.ensures.items in
    let size = ap weight reversed in
    omega (arith, size)

pub returns-in_err-next-clause-err : goal.returns-in_err-next-clause-err
returns-in_err-next-clause-err c =
    let inv = c.units.invariant in
    let p = err_from_is_err_and c.from_residual-in_err-next.result c.from_residual-in_err-next.ensures.1 in
    let following = inv.begun.following in
    let within = inv.begun.within in
    rw (p.1, p.2) (record {
      refused =
          elim c.in_err-next.ensures.err.refused [
            | inl memory ↦ inl memory
            | inr fails ↦ inr (fails_up inv.waiting (fails inv.whole (inv.under ++ before_argument c.units.frame.effect inv.name) inv.read))
          ];
      within =
          λ fits. stays_wider (c.in_err-next.ensures.err.within (omega (arith, fits, within))) (omega (arith, following))
          (omega (arith, within));
    })
