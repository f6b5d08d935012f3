use Rattle.bib_abbreviations.specs.Abbreviations.{given_by}
use Rattle.bib_file_entries.proofs.MendingFacts.{mended_next}
use Rattle.bib_file_entries.proofs.keeping.mend_pieces.Goals as goal

pub pieces-preserved : goal.pieces-preserved
pieces-preserved c =
    rw c.in_ok-push.ensures.items
    (mended_next (given_by c.args.reader.now) c.args.field.now c.pieces.pieces.items c.pieces.piece-index _
    c.in_ok-mend_piece.field-0 c.args.errors.now.items c.pieces.errors.items c.mend_piece.new.errors.items
    c.pieces-test.true c.pieces.invariant c.in_ok-mend_piece.ensures.mended c.in_ok-mend_piece.ensures.errors)
