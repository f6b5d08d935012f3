use Rattle.std.proofs.Common.{◌∙◌, refl}
use Rattle.std.specs.Str.{chars}
use Rattle.bib_text.proofs.TextFacts.{ahead, passed_char, chars_at_end, less_after}
use Rattle.bib_chunks.proofs.SettledFacts.{settled_step, settled_stuck, settled_end}
use Rattle.bib_chunks.proofs.settling.after_text.Goals as goal

pub text-init : goal.text-init
text-init c = rw c.new-scanner.ensures (refl, c.utf8.text, λ v rest. (λ s. s, λ s. s))

pub returns-then-not-may_follow : goal.returns-then-not-may_follow
returns-then-not-may_follow c =
    let passed = passed_char c.in-Some.ensures c.text.invariant.1 in
    settled_stuck c.args.is_braced c.args.before c.text.last c.in-Some.c (chars c.args.text.now)
    (chars (ahead c.eat.new.self)) c.if-not-may_follow.ensures
    (rw passed.spelt at c.text.invariant.2)

pub text-smaller : goal.text-smaller
text-smaller c = less_after c.in-Some.ensures

pub text-preserved : goal.text-preserved
text-preserved c =
    let passed = passed_char c.in-Some.ensures c.text.invariant.1 in (
      passed.same ∙ c.text.invariant.0,
      passed.utf8,
      rw c.neighbour-last.ensures
          (settled_step c.args.is_braced c.args.before c.text.last c.in-Some.c (chars c.args.text.now)
          (chars (ahead c.eat.new.self)) c.if-not-may_follow.ensures (rw passed.spelt at c.text.invariant.2)),
    )

pub returns : goal.returns
returns c =
    settled_end c.args.is_braced c.args.before c.text.last (chars c.args.text.now) (chars (ahead c.text.scanner))
    (chars_at_end c.text.scanner c.in_default.ensures.0) c.text.invariant.2
