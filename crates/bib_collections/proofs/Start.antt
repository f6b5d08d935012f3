-- The state of a worklist at the start.
use Rattle.std.proofs.Common.{◌≡◌, ℕ, zero, suc, ◌<◌, List, [], ◌∷◌, not, cond, eqb, length, get_or, map, refl, sym, ap, ◌∙◌, arith}
use Rattle.std.specs.Vec.{vec_len}
use Rattle.std.specs.declared.alloc.Global.{Global}
use Rattle.std.specs.declared.vec.Vec.{Vec}
use Rattle.std.proofs.lemmas.List.{length-map}
use Rattle.std.proofs.lemmas.List.Sums.{sum_by-cons}
use Rattle.bib_collections.specs.Graph.{refs_of}
use Rattle.bib_collections.specs.Rows.{rows}
use Rattle.bib_collections.specs.Work.{IsWork, times, missing_at, is_among}
use Rattle.bib_collections.proofs.Rows.{length-rows}
use Rattle.bib_collections.proofs.Work.{undone}

all_undone : (xs : List ℕ) → undone [] xs ≡ length xs
all_undone [] = refl
all_undone (x ∷ xs) = omega (arith, sum_by-cons (λ r. cond (not (is_among [] r)) 1 0) x xs, all_undone xs)

counts_of : (refs : List (Vec ℕ Global)) (p : ℕ) → p < length refs
    → get_or (map (λ row. vec_len row) refs) p 1 ≡ length (refs_of (rows refs) p)
counts_of [] p within = absurd (omega arith)
counts_of (v ∷ vs) zero within = v.ok.0
counts_of (v ∷ vs) (suc p) within = counts_of vs p (omega arith)

-- the state of a worklist before the first index is added to the order
pub work_none : (refs : List (Vec ℕ Global)) (missing ready : List ℕ) → missing ≡ map (λ row. vec_len row) refs
    → ((p : ℕ) → times p ready ≡ cond (eqb (missing_at missing p) 0) 1 0) → IsWork (rows refs) [] missing ready
work_none refs missing ready e h = record {
  missing_length = ap length e ∙ length-map refs (λ row. vec_len row) ∙ sym (length-rows refs);
  counts = λ p within. rw e (counts_of refs p (omega (arith, within, length-rows refs)) ∙ sym (all_undone (refs_of (rows refs) p)));
  once = λ p. omega (arith, h p);
  in_order = λ k below. absurd (omega arith);
}
