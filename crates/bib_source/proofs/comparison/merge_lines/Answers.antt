use Rattle.std.proofs.Common.{ap, sym, subst, ◌∙◌}
use Rattle.bib_source.specs.Comparison.{AreRuns, new_side, old_side, line_texts}
use Rattle.bib_source.proofs.BetweenFacts.{merged_between}
use Rattle.bib_source.proofs.MergeFacts.{new_of_ends, old_of_ends, whole_is}
use Rattle.bib_source.proofs.RunFacts.{open_start, runs_context}
use Rattle.bib_source.proofs.comparison.merge_lines.Goals as goal

pub returns-clause-old : goal.returns-clause-old
returns-clause-old c =
    let e = c.find_ends-ends.result in
    let m = c.in_ok-push_merged.ensures.merged in
    ap old_side
    (whole_is _ _ _ _ e.start.now e.end.now m.lines c.new-compared.ensures.items c.in_ok-push_context.ensures m.is
    c.in_ok-push_context-2.ensures)
    ∙ old_of_ends e.start.now e.end.now m.lines (line_texts c.args.old.now) (line_texts e.removed.now) c.find_ends-ends.ensures.old_is
    m.old_is

pub returns-clause-new : goal.returns-clause-new
returns-clause-new c =
    let e = c.find_ends-ends.result in
    let m = c.in_ok-push_merged.ensures.merged in
    ap new_side
    (whole_is _ _ _ _ e.start.now e.end.now m.lines c.new-compared.ensures.items c.in_ok-push_context.ensures m.is
    c.in_ok-push_context-2.ensures)
    ∙ new_of_ends e.start.now e.end.now m.lines (line_texts c.args.new.now) (line_texts e.added.now) c.find_ends-ends.ensures.new_is
    m.new_is

pub returns-clause-between : goal.returns-clause-between
returns-clause-between c =
    let e = c.find_ends-ends.result in
    let m = c.in_ok-push_merged.ensures.merged in
    merged_between (line_texts c.args.old.now) (line_texts c.args.new.now) e.start.now e.removed.now e.added.now e.end.now m.lines _
    c.find_ends-ends.ensures m.old_is m.new_is
    (whole_is _ _ _ _ e.start.now e.end.now m.lines c.new-compared.ensures.items c.in_ok-push_context.ensures m.is
    c.in_ok-push_context-2.ensures)

pub returns-clause-runs : goal.returns-clause-runs
returns-clause-runs c =
    let e = c.find_ends-ends.result in
    subst AreRuns (sym c.in_ok-push_context-2.ensures)
    (runs_context _ e.end.now
    (c.in_ok-push_merged.ensures.runs
    (open_start _ _ e.start.now c.new-compared.ensures.items c.in_ok-push_context.ensures)))
