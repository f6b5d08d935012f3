use Rattle.std.proofs.Common.{◌≡◌, ◌++◌, IfOk, subst}
use Rattle.std.specs.Fmt.{decimal}
use Rattle.std.specs.Prelude.{codes}
use Rattle.std.specs.String.{string_bytes}
use Rattle.bib_findings.proofs.once.foreign_message.Goals as goal

pub returns : goal.returns
returns c =
    subst
    (λ l.
    IfOk c.format.result (λ text. string_bytes text
    ≡ codes "field " ++ (c.args.name.now ++ (codes " of another program, " ++ (decimal c.args.count ++ l)))))
    c.times-times.ensures c.format.ensures.ok
