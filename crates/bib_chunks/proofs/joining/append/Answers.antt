use Rattle.std.proofs.lemmas.Grind.{common_steps}
use Rattle.std.proofs.Common.{◌++◌, ◌∷◌, [], arith}
use Rattle.bib_chunks.proofs.JoinedFacts.{styled-push, joined_whole, placed_whole, joined_push, placed_push}
use Rattle.bib_chunks.proofs.joining.append.Goals as goal

pub returns-in_default-second-clause-joined : goal.returns-in_default-second-clause-joined
returns-in_default-second-clause-joined c = λ joined.
    let whole = rw c.in_default-second.is at c.in_ok-first.ensures in
    rw c.in_ok-push-2.ensures.items (joined_whole c.pop.new.self _ _ _ whole (rw c.in-Some.ensures.items at joined))

pub returns-in_default-second-clause-placed : goal.returns-in_default-second-clause-placed
returns-in_default-second-clause-placed c = λ low high placed before ordered.
    let whole = rw c.in_default-second.is at c.in_ok-first.ensures in
    rw c.in_ok-push-2.ensures.items (placed_whole c.pop.new.self _ _ _ low high whole (rw c.in-Some.ensures.items at placed) before ordered)

pub returns-clause-styled : goal.returns-clause-styled
returns-clause-styled c =
    let two = rw c.in-Some-second.is at c.in_ok-first.ensures in
    rw (c.in_ok-push-3.ensures.items, c.in_ok-push-2.ensures.items, two.0, two.1, c.in-Some.ensures.items)
    (styled-push (c.pop.new.self ++ c.in-Some.last ∷ []) _)

pub returns-clause-joined : goal.returns-clause-joined
returns-clause-joined c = λ joined.
    let two = rw c.in-Some-second.is at c.in_ok-first.ensures in
    rw (c.in_ok-push-3.ensures.items, c.in_ok-push-2.ensures.items, two.0, two.1)
    (joined_push c.pop.new.self _ _ two.2 (rw c.in-Some.ensures.items at joined))

pub returns-clause-placed : goal.returns-clause-placed
returns-clause-placed c = λ low high placed before ordered.
    let two = rw c.in-Some-second.is at c.in_ok-first.ensures in
    rw (c.in_ok-push-3.ensures.items, c.in_ok-push-2.ensures.items, two.0, two.1)
    (placed_push (c.pop.new.self ++ c.in-Some.last ∷ []) _ low high (rw c.in-Some.ensures.items at placed) before ordered)

pub returns-in_default-clause-styled : goal.returns-in_default-clause-styled
returns-in_default-clause-styled c = grind (arith, common_steps)

pub returns-in_default-clause-joined : goal.returns-in_default-clause-joined
returns-in_default-clause-joined c = grind (arith, common_steps)

pub returns-in_default-clause-placed : goal.returns-in_default-clause-placed
returns-in_default-clause-placed c = grind (arith, common_steps)

pub returns-in_default-second-clause-styled : goal.returns-in_default-second-clause-styled
returns-in_default-second-clause-styled c = grind (arith, common_steps)
