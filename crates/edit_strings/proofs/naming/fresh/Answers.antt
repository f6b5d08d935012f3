use Rattle.std.proofs.Common.{◌≡◌, ◌+◌, ◌<◌, ◌^◌, ◌||◌, ℕ, true, arith, ap, sym, ◌∙◌}
use Rattle.std.specs.Prelude.{string_bytes}
use Rattle.edit_strings.specs.Collected.{is_month}
use Rattle.edit_strings.specs.Collecting.{has_lowercase, is_plain_name, is_used}
use Rattle.edit_strings.proofs.NameFacts.{numbered_plain}
use Rattle.edit_strings.proofs.NamesFacts.{one_used}
use Rattle.edit_strings.proofs.PigeonFacts.{bound_taken, used_is}
use Rattle.edit_strings.proofs.naming.fresh.Goals as goal

pub returns-then-not-is_used : goal.returns-then-not-is_used
returns-then-not-is_used c =
    let taken = c.args.taken.now in
    let name = string_bytes c.in_ok-name.name in
    let small : c.numbers.number < 2 ^ 64 = omega (arith, c.numbers-test.true, c.count.ensures.bound) in
    record {
      plain =
          ap is_plain_name c.in_ok-name.ensures ∙ numbered_plain c.args.base.now c.numbers.number small c.requires.plain;
      some = c.numbers.invariant.some;
      is = c.in_ok-name.ensures;
      new =
          sym (used_is taken c.args.base.now name c.numbers.number small c.requires.plain c.in_ok-name.ensures)
          ∙ sym (ap (λ n. is_month n || has_lowercase taken n) c.as_str.ensures.value) ∙ sym c.is_used.ensures
          ∙ c.if-not-is_used.true;
      first = c.numbers.invariant.used;
    }

pub numbers-preserved : goal.numbers-preserved
numbers-preserved c =
    let taken = c.args.taken.now in
    let name = string_bytes c.in_ok-name.name in
    let small : c.numbers.number < 2 ^ 64 = omega (arith, c.numbers-test.true, c.count.ensures.bound) in
    let used : is_used taken name ≡ true =
    sym (used_is taken c.args.base.now name c.numbers.number small c.requires.plain c.in_ok-name.ensures)
    ∙ sym (ap (λ n. is_month n || has_lowercase taken n) c.as_str.ensures.value) ∙ sym c.is_used.ensures
    ∙ c.if-not-is_used.false in
    record {
      some = omega (arith, c.numbers.invariant.some);
      used = one_used taken c.args.base.now name c.numbers.number c.in_ok-name.ensures used c.numbers.invariant.used;
    }

pub unreachable-requires : goal.unreachable-requires
unreachable-requires c =
    let end : ℕ = c.count.result + 3 in
    let most =
    bound_taken c.args.taken.now c.args.base.now end (omega (arith, c.count.ensures.bound)) c.requires.plain
    (λ n some below. c.numbers.invariant.used n some (omega (arith, below, c.numbers-test.false))) in
    omega (arith, most, c.count.ensures.count)
