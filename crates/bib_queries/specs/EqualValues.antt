-- Meaning: words of public contracts.
-- Values that are equal except for runs of white space and for the braces or quotes around their literals.
use Rattle.std.specs.Prelude.{ℕ, Bool, true, false, ◌&&◌, List, [], ◌∷◌, bytes_eq, if◌then◌else◌}
use Rattle.std.specs.Char.{is_ascii_whitespace}
use Rattle.bib_text.specs.Characters as char
use Rattle.bib_syntax.specs.Reading.{Piece}
use Rattle.bib_syntax.specs.Reading.Piece.{abbreviation, literal}

-- a text in which each run of ASCII white space is one space, as BibTeX reads it. The flag says whether white space is directly before the
-- text: then the run that continues at its start is removed
abbrev pub with_single_spaces : Bool → List ℕ → List ℕ
with_single_spaces is_after [] = []
with_single_spaces is_after (b ∷ rest) =
    if is_ascii_whitespace b
    then if is_after then with_single_spaces true rest else char.space ∷ with_single_spaces true rest
    else b ∷ with_single_spaces false rest

-- whether two texts are the same if each run of ASCII white space is one space
abbrev pub are_equal_texts : List ℕ → List ℕ → Bool
are_equal_texts text other = bytes_eq (with_single_spaces false text) (with_single_spaces false other)

-- whether two pieces are two literals with equal texts (see `are_equal_texts`), or two abbreviations whose names are equal, also in ASCII
-- case
abbrev pub is_equal_piece : Piece → Piece → Bool
is_equal_piece (literal p) (literal q) = are_equal_texts p.text q.text
is_equal_piece (literal p) (abbreviation q) = false
is_equal_piece (abbreviation p) (literal q) = false
is_equal_piece (abbreviation p) (abbreviation q) = bytes_eq p.text q.text

-- whether two values have equal pieces in the same order; it doesn't count whether a literal is in braces or in quotes
abbrev pub are_equal_pieces : List Piece → List Piece → Bool
are_equal_pieces [] [] = true
are_equal_pieces [] (q ∷ others) = false
are_equal_pieces (p ∷ pieces) [] = false
are_equal_pieces (p ∷ pieces) (q ∷ others) = is_equal_piece p q && are_equal_pieces pieces others
