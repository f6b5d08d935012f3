use Rattle.std.proofs.Common.{◌≡◌, Bool, false, ℕ, ◌<◌, List, Option, None, Some, codes, cond, length, sym, ap, ◌∙◌, arith}
use Rattle.std.specs.Prelude.{MatchOption, nat_lt}
use Rattle.std.specs.Borrow.{Bor}
use Rattle.bib_queries.specs.LineEnds.{line_end_of}
use lib.Dec.{eqb}
use Rattle.std.specs.List.{after_first, before_first, ends_with, position_or_len}
use Rattle.std.proofs.lemmas.Str.Pattern.{ends_text, split_once_first}
use Rattle.std.proofs.lemmas.Bool.{and_right}
use Rattle.bib_queries.proofs.line_ends.line_end.Goals as goal

-- the line end is a line feed if the first line doesn't end with a carriage return
ends_alone : (text line : List ℕ) (r : Bool) → line ≡ before_first (λ b. eqb b 10) text
    → r ≡ ends_with eqb line (codes "\r") → r ≡ false → line_end_of text ≡ codes "\n"
ends_alone text line r is tests none =
    let alone : ends_with eqb (before_first (λ b. eqb b 10) text) (codes "\r") ≡ false =
    ap (λ l. ends_with eqb l (codes "\r")) (sym is) ∙ sym tests ∙ none in
    ap (λ b. cond b (codes "\r\n") (codes "\n")) (and_right (nat_lt (position_or_len (λ b. eqb b 10) text) (length text)) _ alone)

found : (text : List ℕ) (r : Option (Bor (List ℕ) × Bor (List ℕ))) (x : Bor (List ℕ) × Bor (List ℕ)) → r ≡ Some x
    → MatchOption r (position_or_len (λ b. eqb b 10) text ≡ length text)
    (λ x.
    (position_or_len (λ b. eqb b 10) text < length text) × (x.0.now ≡ before_first (λ b. eqb b 10) text)
    × (x.1.now ≡ after_first (λ b. eqb b 10) text))
    → x.0.now ≡ before_first (λ b. eqb b 10) text
found text (Some y) x is all = ap (λ o. (get_some y o).0.now) (sym is) ∙ all.1
  where
    get_some : Bor (List ℕ) × Bor (List ℕ) → Option (Bor (List ℕ) × Bor (List ℕ)) → Bor (List ℕ) × Bor (List ℕ)
    get_some d (Some y) = y
    get_some d None = d
found text None x is all = absurd (cc)

pub returns-else-ends_with : goal.returns-else-ends_with
returns-else-ends_with c =
    let text = c.args.text.now in
    let line_is =
    found text c.split_once.result (c.in-Some.line, c.in-Some.field-0-1) c.in-Some.is
    (split_once_first 10 text c.split_once.result c.split_once.ensures.cases (omega arith)) in
    sym
    (ends_alone text c.in-Some.line.now c.ends_with.result line_is
    (ends_text c.ends_with.result (codes "\r") c.in-Some.line.now c.ends_with.ensures.cases)
    c.if-ends_with.false)
