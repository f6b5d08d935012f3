use Rattle.std.proofs.Common.{◌%◌, ◌-◌, ◌+◌, ◌<◌, arith, ap, ◌∙◌, ◌++◌}
use Rattle.std.specs.String.{string_bytes}
use Rattle.bib_keys.proofs.SuffixFacts.{more_suffix, no_suffix}
use Rattle.bib_keys.proofs.suffixes.+push_suffix.Goals as goal

pub returns-then-number-eq0 : goal.returns-then-number-eq0
returns-then-number-eq0 t c = no_suffix _ _ c.if-number-eq0.true

pub returns : goal.returns
returns t c =
    let small : 97 + (c.args.number - 1) % 26 < 128 = omega arith in
    more_suffix c.args.number _ _ _ (omega arith) c.in_ok-push_suffix.ensures
    (c.in_ok-push.ensures.bytes ∙ ap (λ l. string_bytes c.push_suffix.new.key ++ l) (c.in_ok-push.ensures.ascii small))
