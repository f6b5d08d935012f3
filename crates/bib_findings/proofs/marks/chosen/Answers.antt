use Rattle.std.proofs.Common.{◌++◌, [], ◌∷◌, ap, sym, ◌∙◌, cond, append-nil, get_or}
use Rattle.bib_findings.proofs.NotedFacts.{chosen_next}
use Rattle.bib_findings.proofs.marks.chosen.Goals.{then-has_shared+in_ok-push, else-has_shared}
use Rattle.bib_findings.proofs.marks.chosen.Goals as goal

pub origins-preserved : goal.origins-preserved
origins-preserved c =
    chosen_next c.args.met.now c.args.all.now c.args.origins.now c.origins.found.items c.if-has_shared.found.items
    c.origins.index _ 0 c.has_shared.result c.requires c.origins-test.true c.has_shared.ensures
    (elim c.if-has_shared.branch [
      | then-has_shared+in_ok-push w ↦
          ap (λ v. v.items) w.found-is ∙ w.in_ok-push.ensures.items
          ∙ ap (λ b. c.origins.found.items ++ cond b (get_or c.args.origins.now c.origins.index 0 ∷ []) [])
          (sym w.if-has_shared.true)
      | else-has_shared w ↦
          ap (λ v. v.items) w.found-is ∙ sym (append-nil c.origins.found.items)
          ∙ ap (λ b. c.origins.found.items ++ cond b (get_or c.args.origins.now c.origins.index 0 ∷ []) [])
          (sym w.if-has_shared.false)
    ])
    c.origins.invariant
