use Rattle.std.proofs.Common.{sym, ◌∙◌, arith}
use Rattle.bib_queries.proofs.EqualValueFacts.{different_counts, pieces_differ, pieces_end, pieces_same}
use Rattle.bib_queries.proofs.equal_values.are_equal_pieces.Goals as goal

pub returns-then-one-other : goal.returns-then-one-other
returns-then-one-other c = sym (different_counts c.args.one.now c.args.other.now (λ same. omega (arith, same, c.if-one-other.true)))

pub returns-then-not-branch : goal.returns-then-not-branch
returns-then-not-branch c =
    sym
    (pieces_differ c.args.one.now c.args.other.now c.pieces.index _ _ (omega arith) (omega (arith, c.if-one-other.false))
    c.pieces.invariant (sym c.in_ok-is_equal_piece.ensures ∙ c.if-not-branch.true))

pub pieces-preserved : goal.pieces-preserved
pieces-preserved c =
    pieces_same c.args.one.now c.args.other.now c.pieces.index _ _ (omega arith) (omega (arith, c.if-one-other.false))
    c.pieces.invariant (sym c.in_ok-is_equal_piece.ensures ∙ c.if-not-branch.false)

pub returns : goal.returns
returns c =
    sym
    (pieces_end c.args.one.now c.args.other.now c.pieces.index (omega arith) (omega (arith, c.if-one-other.false)) c.pieces.invariant)
