use Rattle.std.proofs.Common.{◌++◌, append-nil, ap, map, sym, ◌∙◌}
use Rattle.bib_syntax.specs.Views.{entry_reading_of}
use Rattle.bib_findings.proofs.ParentFacts.{no_parents}
use Rattle.bib_findings.proofs.parent_order.add_early.Goals as goal

pub returns-then-not-have_parents : goal.returns-then-not-have_parents
returns-then-not-have_parents c =
    sym
    (ap (λ l. c.args.found.now.items ++ l)
    (no_parents (map entry_reading_of c.args.said.now) c.args.origins.now
    (sym c.have_parents.ensures ∙ c.if-not-have_parents.true)) ∙ append-nil c.args.found.now.items)
