use Rattle.std.proofs.Common.{◌≡◌, ◌∙◌, ◌||◌, ap, ap₂, arith, false, get_or}
use Rattle.bibkit_core.proofs.ConditionFacts.{grown, range_ends}
use Rattle.bibkit_core.proofs.conditions.cover.Goals as goal
use Rattle.bibkit_core.proofs.conditions.cover.Goals.{then-len-end+in_ok-resize, else-len-end}

pub returns : goal.returns
returns c = λ at.
    let same : get_or c.if-len-end.covered.items at false ≡ get_or c.args.covered.now.items at false = elim c.if-len-end.branch [
      | then-len-end+in_ok-resize w ↦ ap (λ v. get_or v.items at false) w.covered-is
          ∙ ap (λ l. get_or l at false) w.in_ok-resize.ensures.items ∙ grown c.args.covered.now.items c.args.end _ at (omega arith)
      | else-len-end w ↦ ap (λ v. get_or v.items at false) w.covered-is
    ] in
    c.offsets.invariant.are at
    ∙ ap₂ ◌||◌ same (range_ends c.args.start c.args.end c.offsets.at at c.offsets.auto.at c.offsets.invariant.last (omega arith))
