-- Meaning: words of public contracts.
-- Chunks as the parser returns them for one literal: neighbours that are both normal or both verbatim are merged, and spans are in order.
use Rattle.std.specs.Prelude.{◌≡◌, ℕ, ◌≤◌, false, List, [], ◌∷◌, ◌++◌, Option, Some, None}
use Rattle.bib_chunks.specs.declared.chunk.Chunk.{Chunk}
use Rattle.bib_text.specs.declared.spanned.Spanned.{Spanned}
use Rattle.bib_chunks.specs.Styled.{atoms_of, is_same_kind}

-- no two neighbouring chunks are both normal or both verbatim
abbrev pub AreJoined : List (Spanned Chunk) → Type 0
AreJoined [] = Unit {0}
AreJoined (c ∷ []) = Unit {0}
AreJoined (c ∷ d ∷ rest) = (is_same_kind c.v d.v ≡ false) × AreJoined (d ∷ rest)

-- No span of the chunks starts before `low` or ends after `high`. None ends before it starts, and each starts at or after
-- the end of the one before it.
abbrev pub ArePlaced : ℕ → ℕ → List (Spanned Chunk) → Type 0
ArePlaced low high [] = low ≤ high
ArePlaced low high (c ∷ rest) = (low ≤ c.span.start) × (c.span.start ≤ c.span.end) × ArePlaced c.span.end high rest

-- `whole` has the atoms of `first` and then those of `second`, and the span from the start of `first` to the end of
-- `second`. For each other chunk, `is_same_kind` has the same value with `whole` as with `first`.
pub record IsWhole (first second whole : Spanned Chunk) : Type 0 where
  pub says : atoms_of whole.v ≡ atoms_of first.v ++ atoms_of second.v
  pub kind : (before : Chunk) → is_same_kind before whole.v ≡ is_same_kind before first.v
  pub start : whole.span.start ≡ first.span.start
  pub end : whole.span.end ≡ second.span.end

-- the result of merging two neighbours: one chunk for both, or both unchanged, which requires that they aren't both
-- normal or both verbatim
abbrev pub AreNeighbours : Spanned Chunk → Spanned Chunk → Spanned Chunk × Option (Spanned Chunk) → Type 0
AreNeighbours first second (whole, None) = IsWhole first second whole
AreNeighbours first second (before, Some following) = (before ≡ first) × (following ≡ second) × (is_same_kind first.v second.v ≡ false)
