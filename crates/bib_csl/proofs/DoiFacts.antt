-- The DOI in a text.
use Rattle.std.proofs.Common.{◌≡◌, ◌≤◌, ◌<◌, ◌+◌, ℕ, zero, suc, cond, List, [], ◌∷◌, ◌++◌, drop, take, length, codes, Option, Some, None, Result, Ok, Err, IfOk, MatchOption, refl, sym, ap, ◌∙◌, arith}
use Rattle.std.specs.Borrow.{Bor}
use Rattle.std.specs.Option.{option_map}
use Rattle.std.specs.Str.Pattern.{FindsText, LacksTextAt}
use Rattle.bib_text.proofs.ListFacts.{begins, begins_not}
use Rattle.bib_csl.specs.Identifiers.{from_ten}

abbrev ten : List ℕ
ten = codes "10."

-- if no place of a text has `10.`, none is found
ten_lacks : (text : List ℕ) → ((at : ℕ) → at ≤ length text → LacksTextAt ten text at) → from_ten text ≡ None
ten_lacks [] lacks = refl
ten_lacks (b ∷ text) lacks =
    ap (λ d. cond d (Some (b ∷ text)) (from_ten text)) (begins_not ten (b ∷ text) (lacks 0 (omega arith)))
    ∙ ten_lacks text (λ at within. lacks (suc at) (omega (arith, within)))

no_ten : (rest : List ℕ) → [] ≡ ten ++ rest → ⊥
no_ten rest same = let lengths : 0 ≡ suc (suc (suc (length rest))) = ap length same in absurd (omega (arith, lengths))

-- if a text has `10.` at a place and at none before it, the text from this place on is found
ten_stands : (text : List ℕ) (at n : ℕ) → n ≡ at + 3 → ((k : ℕ) → k < at → LacksTextAt ten text k)
    → drop at text ≡ ten ++ drop n text → from_ten text ≡ Some (ten ++ drop n text)
ten_stands [] zero n ends before split = absurd (no_ten (drop n []) split)
ten_stands [] (suc at) n ends before split = absurd (no_ten (drop n []) split)
ten_stands (b ∷ text) zero n ends before split =
    ap (λ d. cond d (Some (b ∷ text)) (from_ten text)) (begins ten (b ∷ text) (drop n (b ∷ text)) split) ∙ ap Some split
ten_stands (b ∷ text) (suc at) zero ends before split = absurd (omega (arith, ends))
ten_stands (b ∷ text) (suc at) (suc n) ends before split =
    ap (λ d. cond d (Some (b ∷ text)) (from_ten text)) (begins_not ten (b ∷ text) (before 0 (omega arith)))
    ∙ ten_stands text at n (omega (arith, ends)) (λ k below. before (suc k) (omega (arith, below))) split

-- `split_once` of std at `10.` finds the text from the first `10.` on
pub ten_found : (text : List ℕ) (r : Option (Bor (List ℕ) × Bor (List ℕ)))
    → MatchOption r (FindsText ten text None)
    (λ x. (i : ℕ) × (j : ℕ) × FindsText ten text (Some (i, j)) × (x.0.now ≡ take i text) × (x.1.now ≡ drop j text)
    × (i ≤ j) × (length x.0.now ≡ i) × (length x.1.now + j ≡ length text))
    → option_map (λ x. ten ++ x.1.now) r ≡ from_ten text
ten_found text None h = sym (ten_lacks text h)
ten_found text (Some x) h =
    ap (λ rest. Some (ten ++ rest)) h.4 ∙ sym (ten_stands text h.0 h.1 h.2.1.ends h.2.0 h.2.1.split)

-- if the value of an Ok equals `text`, it equals each text that `text` equals
pub same_or_error : {E : Type 0} (r : Result (List ℕ) E) (text other : List ℕ) → IfOk r (λ t. t ≡ text) → text ≡ other
    → IfOk r (λ t. t ≡ other)
same_or_error (Ok t) text other is same = is ∙ same
same_or_error (Err e) text other is same = is
