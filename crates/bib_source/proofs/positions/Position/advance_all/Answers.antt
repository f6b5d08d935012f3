use Rattle.std.proofs.Common.{◌≡◌, ◌<◌, ◌+◌, ◌++◌, ◌∷◌, [], ℕ, suc, List, length, take, get_or, sym, ap, ◌∙◌, arith, append_assoc}
use Rattle.std.proofs.Math.Seq.{take-suc}
use Rattle.std.proofs.lemmas.List.{take_all}
use Rattle.bib_source.specs.Positions.{position_after}
use Rattle.bib_source.proofs.positions.Position.advance_all.Goals as goal

-- the first `i` elements and the element at `i` are the first `i + 1` elements
take_one : (xs : List ℕ) (i : ℕ) → i < length xs → take i xs ++ get_or xs i 0 ∷ [] ≡ take (i + 1) xs
take_one xs i below =
    let next : suc i ≡ i + 1 = omega arith in
    sym (take-suc xs i 0 below) ∙ ap (λ n. take n xs) next

pub bytes-preserved : goal.bytes-preserved
bytes-preserved c = record {
  after = λ before is.
      c.advance-position.ensures.after (before ++ take c.bytes.byte-index c.args.bytes.now) (c.bytes.invariant.after before is)
      ∙ ap position_after (append_assoc before (take c.bytes.byte-index c.args.bytes.now)
      (get_or c.args.bytes.now c.bytes.byte-index 0 ∷ [])
      ∙ ap (λ t. before ++ t) (take_one c.args.bytes.now c.bytes.byte-index c.bytes-test.true));
  line = omega (arith, c.bytes.invariant.line, c.advance-position.ensures.line);
  column = omega (arith, c.bytes.invariant.column, c.advance-position.ensures.column);
}

pub returns : goal.returns
returns c = λ before is.
    c.bytes.invariant.after before is
    ∙ ap (λ t. position_after (before ++ t)) (take_all c.bytes.byte-index c.args.bytes.now c.bytes-test.false)
