use Rattle.std.proofs.Common.{◌≡◌, length, arith, refl, sym, ◌∙◌}
use Rattle.std.proofs.lemmas.List.{length-map}
use Rattle.biblatex.proofs.SettledFacts.{never}
use Rattle.biblatex.proofs.DistinctFacts.{keys_of, not_distinct, alone_next, points, all_alone}
use Rattle.biblatex.proofs.settled.has_distinct_keys.Goals as goal

pub indices-preserved-then-points_to : goal.indices-preserved-then-points_to
indices-preserved-then-points_to c =
    alone_next c.args.names.now (keys_of c.args.entries.now) c.indices.index c.indices.invariant
    (points c.args.names.now c.args.entries.now c.indices.index c.index-entries-index.result c.indices-test.true
    c.index-entries-index.is (rw (c.as_str.ensures, ← c.index-entries-index.is) at (c.if-points_to.ensures.0 refl)))

pub returns-then-is_repeated : goal.returns-then-is_repeated
returns-then-is_repeated c =
    let size : length (keys_of c.args.entries.now) ≡ length c.args.entries.now = length-map c.args.entries.now (λ x. x.key) in
    never
    (not_distinct (keys_of c.args.entries.now) c.indices.index (omega (arith, size, c.indices-test.true))
    (sym c.is_repeated.ensures ∙ c.if-is_repeated.true))

pub returns : goal.returns
returns c = all_alone c.args.names.now c.args.entries.now c.indices.index c.indices.invariant c.indices-test.false
