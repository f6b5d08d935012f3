use Rattle.std.proofs.Common.{arith, ap, sym, ◌∙◌}
use Rattle.std.specs.Prelude.{string_bytes}
use Rattle.std.specs.BTreeMap.{get_by_text}
use Rattle.bib_keys.specs.Taken.{is_key_taken}
use Rattle.bib_keys.proofs.CountFacts.{number_bound}
use Rattle.bib_keys.proofs.KeyFacts.{more_taken}
use Rattle.bib_keys.proofs.keys.first_free.Goals as goal

pub numbers-preserved : goal.numbers-preserved
numbers-preserved c =
    let taken = get_by_text c.args.taken.now in
    more_taken taken (string_bytes c.args.text.now) (string_bytes c.in_ok-key.key) c.numbers.number c.numbers.invariant
    c.in_ok-key.ensures (sym (ap (is_key_taken taken) c.as_str.ensures.value) ∙ sym c.in_ok-is_key_taken.ensures ∙ c.if-not-branch.false)

pub unreachable-requires : goal.unreachable-requires
unreachable-requires c =
    omega (
      arith,
      number_bound c.args.taken.now (string_bytes c.args.text.now) c.numbers.number c.numbers.invariant,
      c.len-len.ensures.len,
      c.numbers-test.false,
    )
