use Rattle.std.proofs.Common.{◌≡◌, ◌∙◌, arith, map}
use Rattle.std.specs.String.{string_bytes}
use Rattle.bib_syntax.specs.Views.{piece_of}
use Rattle.edit_accents.specs.Pieces.{new_texts}
use Rattle.edit_accents.specs.declared.recoding.Form.{Form}
use Rattle.edit_accents.proofs.PieceFacts.{recoded_is, recoded_more, text_at}
use Rattle.edit_accents.proofs.recoding.new_pieces.Goals as goal

pub pieces-preserved : goal.pieces-preserved
pieces-preserved c =
    let pieces = c.args.pieces.now in
    let i = c.pieces.at in
    let p = c.piece_at-piece.result.now in
    record {
      made = λ (form : Form) (same : map string_bytes c.args.texts.now ≡ new_texts form (map piece_of pieces)).
          let text =
          text_at form pieces c.args.texts.now i p c.index-texts-at.result c.pieces-test.true c.piece_at-piece.ensures
          c.index-texts-at.is same in
          recoded_more form pieces i p c.pieces-test.true c.piece_at-piece.ensures c.pieces.new.items c.push.new.self.items
          c.with_text.result (c.pieces.invariant.made form same) (c.in_ok-push.ensures.items)
          (c.with_text.ensures ∙ recoded_is form (piece_of p) c.deref.result.now (c.deref.ensures ∙ text));
      within = omega (arith, c.pieces-test.true);
    }
