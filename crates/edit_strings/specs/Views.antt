-- Meaning: words of public contracts.
-- The texts, the pieces and the references that values of the code represent.
use Rattle.std.specs.Prelude.{ℕ, List, map}
use Rattle.std.specs.Borrow.{Bor}
use Rattle.bib_text.specs.declared.spanned.Spanned.{Spanned}
use Rattle.bib_syntax.specs.Reading.{Piece}
use Rattle.bib_syntax.specs.Views.{entry_reading_of, field_of, piece_of}
use Rattle.bib_syntax.specs.declared.raw.RawChunk.{RawChunk}
use Rattle.edit_strings.specs.Left.{Left}
use Rattle.edit_strings.specs.declared.left_references.LeftReference.{LeftReference}

-- the texts that are borrowed
abbrev pub lent_texts : List (Bor (List ℕ)) → List (List ℕ)
lent_texts items = map (λ t. t.now) items

-- the pieces that are borrowed
abbrev pub lent_pieces : List (Bor (Spanned RawChunk)) → List Piece
lent_pieces items = map (λ p. piece_of p.now) items

-- a reference that stays, converted from the type of the code
abbrev pub left_of : LeftReference → Left
left_of l = record { entry = entry_reading_of l.entry.now; field = field_of l.field.now; name = l.name }

-- references that stay, converted from the type of the code
abbrev pub lent_left : List LeftReference → List Left
lent_left left = map left_of left
