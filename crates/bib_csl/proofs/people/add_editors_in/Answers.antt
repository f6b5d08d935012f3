use Rattle.std.proofs.Common.{◌++◌, ◌∙◌, sym, ap, append-nil}
use Rattle.bib_csl.proofs.EditorFacts.{none_listed}
use Rattle.bib_csl.proofs.people.add_editors_in.Goals as goal

pub returns-then-not-has : goal.returns-then-not-has
returns-then-not-has c =
    let names = c.args.names.now in
    sym (append-nil names)
    ∙ ap (λ l. names ++ l)
    (sym
    (none_listed c.args.variable c.args.entry.now c.args.people.now c.args.role.now
    (sym c.has.ensures ∙ c.if-not-has.true)))
