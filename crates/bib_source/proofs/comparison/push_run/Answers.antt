use Rattle.std.proofs.Common.{◌++◌, ap, map, sym, subst, ◌∙◌}
use Rattle.bib_source.specs.Comparison.{AreRuns, line_texts}
use Rattle.bib_source.specs.Merging.{Extends}
use Rattle.bib_source.specs.declared.comparison.Line.TheVariants.{Context, Removed, Added}
use Rattle.bib_source.proofs.MergeFacts.{extends_ends}
use Rattle.bib_source.proofs.RunFacts.{runs_of_ends}
use Rattle.bib_source.proofs.comparison.push_run.Goals as goal

pub returns-clause-merged : goal.returns-clause-merged
returns-clause-merged c =
    let e = c.find_ends-ends.result in
    subst (λ ls. Extends c.args.compared.now.items ls (line_texts c.args.old.now) (line_texts c.args.new.now))
    (sym
    (c.in_ok-push_context-2.ensures
    ∙ ap (λ ls. ls ++ map Context e.end.now)
    (c.in_ok-push_added.ensures
    ∙ ap (λ ls. ls ++ map Added e.added.now)
    (c.in_ok-push_removed.ensures ∙ ap (λ ls. ls ++ map Removed e.removed.now) c.in_ok-push_context.ensures))))
    (extends_ends c.args.compared.now.items (line_texts c.args.old.now) (line_texts c.args.new.now)
    e.start.now e.removed.now e.added.now e.end.now
    c.find_ends-ends.ensures)

pub returns-clause-runs : goal.returns-clause-runs
returns-clause-runs c = λ is.
    let e = c.find_ends-ends.result in
    subst AreRuns
    (sym
    (c.in_ok-push_context-2.ensures
    ∙ ap (λ ls. ls ++ map Context e.end.now)
    (c.in_ok-push_added.ensures
    ∙ ap (λ ls. ls ++ map Added e.added.now)
    (c.in_ok-push_removed.ensures ∙ ap (λ ls. ls ++ map Removed e.removed.now) c.in_ok-push_context.ensures))))
    (runs_of_ends c.args.compared.now.items (line_texts c.args.old.now) (line_texts c.args.new.now)
    e.start.now e.removed.now e.added.now e.end.now is
    c.find_ends-ends.ensures)
