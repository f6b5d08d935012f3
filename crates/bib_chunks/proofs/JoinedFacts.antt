-- Facts about appending chunks.
use Rattle.std.proofs.Common.{◌≡◌, ℕ, ◌≤◌, false, List, [], ◌∷◌, ◌++◌, sym, ap, ◌∙◌, append_assoc, append-nil, arith, suc}
use Rattle.std.proofs.lemmas.Bool.Decides.{nat_tests}
use Rattle.std.specs.Prelude.{IsTrue, ◌==◌}
use Rattle.std.proofs.lemmas.List.Concat.{flat_map-append}
use Rattle.bib_chunks.specs.declared.chunk.Chunk.{Chunk}
use Rattle.bib_text.specs.declared.spanned.Spanned.{Spanned}
use Rattle.bib_chunks.specs.Styled.{atoms_of, styled, is_same_kind}
use Rattle.bib_chunks.specs.Joined.{AreJoined, ArePlaced, IsWhole}

suc_not_zero : (n : ℕ) → IsTrue (suc n == 0) → ⊥
suc_not_zero n blank = grind (arith, nat_tests)

-- the styled text of appended chunks is the atoms of the first ones and then those of the second ones
pub styled-append : (xs ys : List (Spanned Chunk)) → styled (xs ++ ys) ≡ styled xs ++ styled ys
styled-append xs ys = flat_map-append (λ (c : Spanned Chunk). atoms_of c.v) xs ys

pub styled-one : (c : Spanned Chunk) → styled (c ∷ []) ≡ atoms_of c.v
styled-one c = append-nil _

pub styled-push : (xs : List (Spanned Chunk)) (c : Spanned Chunk) → styled (xs ++ c ∷ []) ≡ styled xs ++ atoms_of c.v
styled-push xs c = styled-append xs (c ∷ []) ∙ ap (λ a. styled xs ++ a) (styled-one c)

-- if the last chunk is merged with another one, the atoms of that are appended
pub styled_whole : (rest : List (Spanned Chunk)) (first second whole : Spanned Chunk) → IsWhole first second whole
    → styled (rest ++ whole ∷ []) ≡ styled (rest ++ first ∷ []) ++ atoms_of second.v
styled_whole rest first second whole is =
    styled-push rest whole ∙ ap (λ a. styled rest ++ a) is.says ∙ sym (append_assoc (styled rest) (atoms_of first.v) (atoms_of second.v))
    ∙ ap (λ a. a ++ atoms_of second.v) (sym (styled-push rest first))

-- chunks stay joined if the last one is merged with another one
pub joined_whole : (rest : List (Spanned Chunk)) (first second whole : Spanned Chunk) → IsWhole first second whole
    → AreJoined (rest ++ first ∷ [])
    → AreJoined (rest ++ whole ∷ [])
joined_whole [] first second whole is joined = tt
joined_whole (c ∷ []) first second whole is joined = (is.kind c.v ∙ joined.0, tt)
joined_whole (c ∷ d ∷ rest) first second whole is joined = (joined.0, joined_whole (d ∷ rest) first second whole is joined.1)

-- chunks stay placed if the last one is merged with a later one
pub placed_whole : (rest : List (Spanned Chunk)) (first second whole : Spanned Chunk) (low high : ℕ) → IsWhole first second whole
    → ArePlaced low high (rest ++ first ∷ []) → high ≤ second.span.start → second.span.start ≤ second.span.end
    → ArePlaced low second.span.end (rest ++ whole ∷ [])
placed_whole [] first second whole low high is placed before ordered = (
  omega (arith, is.start, placed.0),
  omega (arith, is.start, is.end, placed.0, placed.1, placed.2),
  omega (arith, is.end),
)
placed_whole (c ∷ rest) first second whole low high is placed before ordered = (
  placed.0,
  placed.1,
  placed_whole rest first second whole c.span.end high is placed.2 before ordered,
)

-- chunks stay joined if a chunk of another kind than the last one is appended
pub joined_push : (rest : List (Spanned Chunk)) (first second : Spanned Chunk) → is_same_kind first.v second.v ≡ false
    → AreJoined (rest ++ first ∷ [])
    → AreJoined ((rest ++ first ∷ []) ++ second ∷ [])
joined_push [] first second apart joined = (apart, tt)
joined_push (c ∷ []) first second apart joined = (joined.0, (apart, tt))
joined_push (c ∷ d ∷ rest) first second apart joined = (joined.0, joined_push (d ∷ rest) first second apart joined.1)

-- chunks stay placed if a later one is appended
pub placed_push : (chunks : List (Spanned Chunk)) (chunk : Spanned Chunk) (low high : ℕ) → ArePlaced low high chunks
    → high ≤ chunk.span.start
    → chunk.span.start ≤ chunk.span.end → ArePlaced low chunk.span.end (chunks ++ chunk ∷ [])
placed_push [] chunk low high placed before ordered = (omega (arith, placed), ordered, omega arith)
placed_push (c ∷ rest) chunk low high placed before ordered = (
  placed.0,
  placed.1,
  placed_push rest chunk c.span.end high placed.2 before ordered,
)

-- chunks that are placed up to an offset are placed up to a later one
pub placed_up : (chunks : List (Spanned Chunk)) (low high higher : ℕ) → high ≤ higher → ArePlaced low high chunks
    → ArePlaced low higher chunks
placed_up [] low high higher up placed = omega (arith, up, placed)
placed_up (c ∷ rest) low high higher up placed = (placed.0, placed.1, placed_up rest c.span.end high higher up placed.2)
