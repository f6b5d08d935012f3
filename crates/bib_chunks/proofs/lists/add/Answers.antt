use Rattle.std.proofs.Common.{sym, ◌∙◌}
use Rattle.std.proofs.lemmas.Result.{on_ok_weaker}
use Rattle.bib_chunks.proofs.ListFacts.{added_joined, added_apart}
use Rattle.bib_chunks.proofs.lists.add.Goals as goal

pub returns-then-joined : goal.returns-then-joined
returns-then-joined c =
    added_joined _ c.pop.new.self _ c.in-Some.last c.lengthen.new.last c.args.chunk.now c.in-Some.ensures.items
    c.in_ok-joined.ensures.text (sym c.in_ok-joined.ensures.joined ∙ c.if-joined.true) c.in_ok-push.ensures.items

pub returns : goal.returns
returns c =
    on_ok_weaker c.push_copy-2.result
    (λ is.
    added_apart _ c.pop.new.self _ c.in-Some.last c.lengthen.new.last c.args.chunk.now c.in-Some.ensures.items
    c.in_ok-joined.ensures.text (sym c.in_ok-joined.ensures.joined ∙ c.if-joined.false) _
    c.in_ok-push.ensures.items is) c.push_copy-2.ensures
