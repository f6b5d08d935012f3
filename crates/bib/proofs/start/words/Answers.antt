use Rattle.std.proofs.lemmas.Iterator.{items_from_collect}
use Rattle.std.proofs.lemmas.Iterator.Adapters.{YieldsList-from_vec, YieldsList-from_skip}
use Rattle.std.proofs.Common.{ap, ◌∙◌}
use Rattle.std.specs.Vec.Iter.{into_iter_items, into_iter_len}
use Rattle.bib.proofs.Words.{words_collected}
use Rattle.bib.proofs.start.words.Goals as goal

pub returns-in-Ok-clause-words : goal.returns-in-Ok-clause-words
returns-in-Ok-clause-words c =
    let all = c.in-Ok.arguments in
    let source =
    YieldsList-from_vec (into_iter_items all) (ap into_iter_items c.skip.ensures.source)
    (ap into_iter_len c.skip.ensures.source ∙ all.rest.ok.0) in
    rw c.in-Ok.is
    (words_collected c.collect.result (into_iter_items all)
    (items_from_collect c.collect.result c.collect.ensures.ran
    (YieldsList-from_skip 1 source c.skip.ensures.count)))
