use Rattle.std.proofs.Common.{◌∷◌, [], sym, subst}
use Rattle.bib_source.specs.Comparison.{line_texts}
use Rattle.bib_source.specs.Merging.{IsOpen}
use Rattle.bib_source.proofs.MergeFacts.{extends_context, extends_more}
use Rattle.bib_source.proofs.RunFacts.{open_after}
use Rattle.bib_source.proofs.comparison.push_run_before.Goals as goal

pub returns-clause-merged : goal.returns-clause-merged
returns-clause-merged c =
    let line = c.args.line in
    extends_more c.args.compared.now.items c.push_run.new.compared.items c.push.new.self.items
    (line_texts c.args.old.now) (line_texts c.args.new.now)
    (line.now ∷ []) (line.now ∷ []) c.in_ok-push_run.ensures.merged
    (extends_context c.push_run.new.compared.items c.push.new.self.items line c.in_ok-push.ensures.items)

pub returns-clause-runs : goal.returns-clause-runs
returns-clause-runs c = λ is.
    subst IsOpen (sym c.in_ok-push.ensures.items) (open_after c.push_run.new.compared.items c.args.line (c.in_ok-push_run.ensures.runs is))
