use Rattle.std.proofs.Common.{◌<◌, ◌++◌, ◌∷◌, ℕ, [], get_or, length, sym, ap, ◌∙◌}
use Rattle.std.proofs.lemmas.List.{map_more}
use Rattle.std.proofs.lemmas.List.Elements.{All-get_or}
use Rattle.edit_sort.proofs.ranks.lengths_at.Goals as goal

pub bounds-lengths-r : goal.bounds-lengths-r
bounds-lengths-r c =
    All-get_or (λ r. r < length c.args.lengths.now) c.args.indices.now c.indices.r-index 0 c.indices-test.true c.requires

pub indices-preserved : goal.indices-preserved
indices-preserved c =
    let at = λ (r : ℕ). get_or c.args.lengths.now r 0 in
    c.in_ok-push.ensures.items ∙ ap (λ l. l ++ at (get_or c.args.indices.now c.indices.r-index 0) ∷ []) c.indices.invariant
    ∙ sym (map_more at c.args.indices.now c.indices.r-index 0 c.indices-test.true)
