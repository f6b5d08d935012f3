-- Facts about the spans of chunks.
use Rattle.std.proofs.Common.{◌≡◌, ℕ, ◌-◌, List, [], ◌∷◌, length, sym, ap, ◌∙◌, Some, arith}
use Rattle.std.specs.Prelude.{slice_get}
use Rattle.std.specs.declared.ops.Range.{Range}
use Rattle.bib_chunks.specs.declared.chunk.Chunk.{Chunk}
use Rattle.bib_text.specs.declared.spanned.Spanned.{Spanned}
use Rattle.bib_chunks.specs.Styled.{last_end, whole_span}

same_some : (x y : Spanned Chunk) → Some x ≡ Some y → x ≡ y
same_some x y same = cc

last_end_is : (c : Spanned Chunk) (rest : List (Spanned Chunk)) (last : Spanned Chunk)
    → slice_get (c ∷ rest) (length rest) ≡ Some last → last.span.end ≡ last_end c.span.end rest
last_end_is c [] last is = ap (λ x. x.span.end) (sym (same_some c last is))
last_end_is c (d ∷ rest) last is = last_end_is d rest last is

range : ℕ → ℕ → Range ℕ
range start end = record { start = start; end = end }

-- the span from the start of the first chunk to the end of the last one
pub whole_span_is : (chunks : List (Spanned Chunk)) (first last : Spanned Chunk) → Some first ≡ slice_get chunks 0
    → Some last ≡ slice_get chunks (length chunks - 1)
    → ◌≡◌ {A = Range ℕ} (record { start = first.span.start; end = last.span.end }) (whole_span chunks)
unfolding range
whole_span_is [] first last is_first is_last = cc
whole_span_is (c ∷ rest) first last is_first is_last =
    let following : length rest ≡ length (c ∷ rest) - 1 = omega arith in
    ap (λ x. range x.span.start last.span.end) (same_some first c is_first)
    ∙ ap (range c.span.start) (last_end_is c rest last (ap (slice_get (c ∷ rest)) following ∙ sym is_last))
