use Rattle.std.proofs.Common.{◌<◌, get_or, length, map, max, sym, ap, ◌∙◌, arith}
use Rattle.std.proofs.lemmas.List.{drop_all}
use Rattle.std.proofs.lemmas.List.Elements.{All-get_or}
use Rattle.edit_sort.specs.Ranks as ranks
use Rattle.edit_sort.proofs.LengthFacts.{above_all, above_more, above_none}
use Rattle.edit_sort.proofs.ranks.one_above.Goals as goal

pub indices-init : goal.indices-init
indices-init c = above_none (ranks.one_above c.args.most (map (λ r. get_or c.args.lengths.now r 0) c.args.indices.now))

pub bounds-lengths-r : goal.bounds-lengths-r
bounds-lengths-r c =
    All-get_or (λ r. r < length c.args.lengths.now) c.args.indices.now c.indices.r-index 0 c.indices-test.true c.requires

pub indices-preserved : goal.indices-preserved
indices-preserved c =
    above_more c.args.most (λ r. get_or c.args.lengths.now r 0) c.args.indices.now c.indices.r-index c.indices.found
    c.max-found.result c.indices-test.true (c.max-found.ensures ∙ ap (max c.indices.found) c.one_more.ensures)
    ∙ c.indices.invariant

pub returns : goal.returns
returns c =
    sym (above_all c.indices.found)
    ∙ ap (λ l. max c.indices.found (ranks.one_above c.args.most (map (λ r. get_or c.args.lengths.now r 0) l)))
    (sym (drop_all c.indices.r-index c.args.indices.now (omega arith)))
    ∙ c.indices.invariant
