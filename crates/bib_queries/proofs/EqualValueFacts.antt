-- Values with the same pieces.
use Rattle.std.proofs.Common.{◌≡◌, ◌<◌, ◌≤◌, ◌+◌, ℕ, Bool, true, false, ◌&&◌, List, [], ◌∷◌, length, drop, get_or, map, suc, refl, sym, ap, ap₂, ◌∙◌, arith}
use Rattle.std.proofs.lemmas.List.{drop_all, length-map}
use Rattle.std.proofs.Math.Seq.{drop-cons}
use Rattle.bib_text.specs.declared.spanned.Spanned.{Spanned}
use Rattle.bib_syntax.specs.Reading.{Piece}
use Rattle.bib_syntax.specs.Views.{piece_of}
use Rattle.bib_syntax.specs.declared.raw.RawChunk.{RawChunk}
use Rattle.bib_queries.specs.EqualValues.{are_equal_pieces, is_equal_piece}

-- the items from `index` on are the one at `index` and those after it
pub from_index : {A : Type 0} (items : List A) (index : ℕ) (other : A) → index < length items
    → drop index items ≡ get_or items index other ∷ drop (index + 1) items
from_index items index other within =
    drop-cons items index other within
    ∙ ap (λ n. get_or items index other ∷ drop n items) (let same : suc index ≡ index + 1 = omega arith in same)

and_false : (b c : Bool) → c ≡ false → (b && c) ≡ false
and_false true c fails = fails
and_false false c fails = refl

-- values with different numbers of pieces don't have the same pieces
different_lengths : (pieces others : List Piece) → (length pieces ≡ length others → ⊥) → are_equal_pieces pieces others ≡ false
different_lengths [] [] other = absurd (other refl)
different_lengths [] (q ∷ others) other = refl
different_lengths (p ∷ pieces) [] other = refl
different_lengths (p ∷ pieces) (q ∷ others) other =
    and_false (is_equal_piece p q) (are_equal_pieces pieces others) (different_lengths pieces others (λ same. other (ap suc same)))

-- values with different numbers of raw pieces don't have the same pieces
pub different_counts : (one other : List (Spanned RawChunk)) → (length one ≡ length other → ⊥)
    → are_equal_pieces (map piece_of one) (map piece_of other) ≡ false
different_counts one other differ =
    different_lengths (map piece_of one) (map piece_of other)
    (λ same. differ (sym (length-map one piece_of) ∙ same ∙ length-map other piece_of))

-- values have the same pieces from an index on if the pieces there are the same, and those after it
pieces_next : (one other : List (Spanned RawChunk)) (index : ℕ) (d e : Spanned RawChunk) → index < length one → index < length other
    → are_equal_pieces (map piece_of (drop index one)) (map piece_of (drop index other))
    ≡ (is_equal_piece (piece_of (get_or one index d)) (piece_of (get_or other index e))
    && are_equal_pieces (map piece_of (drop (index + 1) one)) (map piece_of (drop (index + 1) other)))
pieces_next one other index d e within within' =
    ap₂ (λ l m. are_equal_pieces (map piece_of l) (map piece_of m)) (from_index one index d within) (from_index other index e within')

-- if the pieces from an index on decide whether values have the same pieces, and those at the index differ, the values don't have the same
-- pieces
pub pieces_differ : (one other : List (Spanned RawChunk)) (index : ℕ) (d e : Spanned RawChunk) → index < length one
    → index < length other
    → are_equal_pieces (map piece_of (drop index one)) (map piece_of (drop index other))
    ≡ are_equal_pieces (map piece_of one) (map piece_of other)
    → is_equal_piece (piece_of (get_or one index d)) (piece_of (get_or other index e)) ≡ false
    → are_equal_pieces (map piece_of one) (map piece_of other) ≡ false
pieces_differ one other index d e within within' so_far differ =
    sym so_far ∙ pieces_next one other index d e within within'
    ∙ ap (λ b. b && are_equal_pieces (map piece_of (drop (index + 1) one)) (map piece_of (drop (index + 1) other))) differ

-- if the pieces from an index on decide whether values have the same pieces, and those at the index are the same, the ones after it decide
pub pieces_same : (one other : List (Spanned RawChunk)) (index : ℕ) (d e : Spanned RawChunk) → index < length one
    → index < length other
    → are_equal_pieces (map piece_of (drop index one)) (map piece_of (drop index other))
    ≡ are_equal_pieces (map piece_of one) (map piece_of other)
    → is_equal_piece (piece_of (get_or one index d)) (piece_of (get_or other index e)) ≡ true
    → are_equal_pieces (map piece_of (drop (index + 1) one)) (map piece_of (drop (index + 1) other))
    ≡ are_equal_pieces (map piece_of one) (map piece_of other)
pieces_same one other index d e within within' so_far equal =
    sym
    (pieces_next one other index d e within within'
    ∙ ap (λ b. b && are_equal_pieces (map piece_of (drop (index + 1) one)) (map piece_of (drop (index + 1) other))) equal)
    ∙ so_far

-- if the pieces from an index on decide whether values have the same pieces, and there are none, the values have the same pieces
pub pieces_end : (one other : List (Spanned RawChunk)) (index : ℕ) → length one ≤ index → length other ≤ index
    → are_equal_pieces (map piece_of (drop index one)) (map piece_of (drop index other))
    ≡ are_equal_pieces (map piece_of one) (map piece_of other)
    → are_equal_pieces (map piece_of one) (map piece_of other) ≡ true
pieces_end one other index past past' so_far =
    sym so_far ∙ ap₂ (λ l m. are_equal_pieces (map piece_of l) (map piece_of m)) (drop_all index one past) (drop_all index other past')
