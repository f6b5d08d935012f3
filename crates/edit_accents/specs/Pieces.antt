-- Machinery: words of private contracts.
-- Pieces of values with new texts.
use Rattle.std.specs.Prelude.{ℕ, List, map}
use Rattle.bib_syntax.specs.Reading.{Piece}
use Rattle.bib_syntax.specs.Reading.Piece.{literal, abbreviation}
use Rattle.edit_accents.specs.Recoded.{piece_recoded}
use Rattle.edit_accents.specs.declared.recoding.Form.{Form}

-- the text of a piece
abbrev pub text_of_piece : Piece → List ℕ
text_of_piece (literal p) = p.text
text_of_piece (abbreviation p) = p.text

-- a piece with another text
abbrev pub piece_with_text : Piece → List ℕ → Piece
piece_with_text (literal p) text = literal (record p { text = text })
piece_with_text (abbreviation p) text = abbreviation (record p { text = text })

-- the texts of pieces, whose literals are recoded
abbrev pub new_texts : Form → List Piece → List (List ℕ)
new_texts form pieces = map (λ p. text_of_piece (piece_recoded form p)) pieces
