use Rattle.std.proofs.Common.{◌∙◌, arith}
use Rattle.bib_chunks.specs.Cutting.{IsFirstCut}
use Rattle.bib_chunks.proofs.CutFacts.{read_piece, read_rest}
use Rattle.bib_chunks.proofs.chunk.cuts.cut_text.Goals as goal

pub pieces-preserved : goal.pieces-preserved
pieces-preserved c =
    let first : IsFirstCut c.args.separator c.pieces.rest.now c.in-Some.before.now c.in-Some.after.now = c.in-Some.ensures in
    record {
      utf8 = first.utf8;
      within = omega (arith, first.size, c.pieces.invariant.within);
      so_far = λ parts.
          read_piece c.args.separator c.pieces.parts c.add.new.self c.end.new.self c.args.whole.now c.args.span.now _ _
          c.pieces.following c.pieces.rest.now c.in-Some.before.now c.in-Some.after.now c.in_ok-piece.field-0
          first (omega (arith, first.size, c.pieces.invariant.within)) c.in_ok-piece.ensures c.in_ok-add.ensures c.in_ok-end.ensures parts
          ∙ c.pieces.invariant.so_far parts;
    }

pub returns : goal.returns
returns c parts =
    read_rest c.args.separator c.pieces.parts c.add-2.new.self c.args.whole.now c.args.span.now _ c.pieces.following
    c.pieces.rest.now c.in_ok-piece-2.field-0
    c.pieces.invariant.utf8 c.in_default.ensures c.in_ok-piece-2.ensures c.in_ok-add-2.ensures parts
    ∙ c.pieces.invariant.so_far parts
