use Rattle.std.proofs.Common.{◌∙◌, sym, arith}
use Rattle.edit_entries.proofs.DefinitionFacts.{same_more, same_not}
use Rattle.edit_entries.proofs.definitions.is_same_value.Goals as goal

pub returns-then-not-is_same_piece : goal.returns-then-not-is_same_piece
returns-then-not-is_same_piece c =
    same_not c.args.one.now c.args.other.now c.pieces.index _ _ (omega arith) (omega (arith, c.if-one-other.false))
    (sym c.is_same_piece.ensures ∙ c.if-not-is_same_piece.true)

pub pieces-preserved : goal.pieces-preserved
pieces-preserved c =
    same_more c.args.one.now c.args.other.now c.pieces.index _ _ (omega arith) (omega (arith, c.if-one-other.false))
    (sym c.is_same_piece.ensures ∙ c.if-not-is_same_piece.false) c.pieces.invariant
