-- Pieces of a text with tags.
use Rattle.std.proofs.Common.{◌≡◌, ℕ, List, [], ◌∷◌, ◌++◌, refl, sym, ap, ◌∙◌, append_assoc, append-nil}
use Rattle.bib_from_csl.specs.Tags.{tag_piece_text, open_after_piece, pieces_text, open_after_pieces}

pub open_after_one_more : (depth : ℕ) (pieces : List (List ℕ)) (piece : List ℕ)
    → open_after_pieces depth (pieces ++ piece ∷ []) ≡ open_after_piece (open_after_pieces depth pieces) piece
open_after_one_more depth [] piece = refl
open_after_one_more depth (p ∷ ps) piece = open_after_one_more (open_after_piece depth p) ps piece

pub pieces_text_one_more : (depth : ℕ) (pieces : List (List ℕ)) (piece : List ℕ)
    → pieces_text depth (pieces ++ piece ∷ [])
    ≡ pieces_text depth pieces ++ tag_piece_text (open_after_pieces depth pieces) piece
pieces_text_one_more depth [] piece = append-nil (tag_piece_text depth piece)
pieces_text_one_more depth (p ∷ ps) piece =
    ap (λ t. tag_piece_text depth p ++ t) (pieces_text_one_more (open_after_piece depth p) ps piece)
    ∙ sym
    (append_assoc (tag_piece_text depth p) (pieces_text (open_after_piece depth p) ps)
    (tag_piece_text (open_after_pieces (open_after_piece depth p) ps) piece))
