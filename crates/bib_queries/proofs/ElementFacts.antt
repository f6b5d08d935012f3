-- The text after the first place at which a text contains another.
use Rattle.std.proofs.Common.{◌≡◌, ◌≤◌, ◌<◌, ◌+◌, ℕ, zero, suc, cond, List, [], ◌∷◌, ◌++◌, drop, take, length, Option, Some, None, MatchOption, sym, ap, ◌∙◌, arith}
use Rattle.std.specs.Borrow.{Bor}
use Rattle.std.specs.Option.{option_map}
use Rattle.std.specs.Str.Pattern.{FindsText, LacksTextAt}
use Rattle.bib_queries.specs.Elements.{text_after_part}
use Rattle.bib_text.proofs.ListFacts.{begins, begins_not}

-- if a text has the part at no offset, no text after it is found
part_lacks : (part text : List ℕ) → ((at : ℕ) → at ≤ length text → LacksTextAt part text at) → text_after_part part text ≡ None
part_lacks part [] lacks = ap (λ b. cond b (Some (drop {A = ℕ} (length part) [])) None) (begins_not part [] (lacks 0 (omega arith)))
part_lacks part (b ∷ text) lacks =
    ap (λ d. cond d (Some (drop (length part) (b ∷ text))) (text_after_part part text)) (begins_not part (b ∷ text) (lacks 0 (omega arith)))
    ∙ part_lacks part text (λ at within. lacks (suc at) (omega (arith, within)))

-- if a text has the part at an offset and at none before it, the text after the part at this offset is found
part_stands : (part text : List ℕ) (at n : ℕ) → n ≡ at + length part → ((k : ℕ) → k < at → LacksTextAt part text k)
    → drop at text ≡ part ++ drop n text → text_after_part part text ≡ Some (drop n text)
part_stands part [] zero n ends before split =
    let same : length part ≡ n = omega (arith, ends) in
    ap (λ b. cond b (Some (drop {A = ℕ} (length part) [])) None) (begins part [] (drop n []) split)
    ∙ ap (λ k. Some (drop {A = ℕ} k [])) same
part_stands part [] (suc at) n ends before split = absurd (before 0 (omega arith) (drop n []) split)
part_stands part (b ∷ text) zero n ends before split =
    let same : length part ≡ n = omega (arith, ends) in
    ap (λ d. cond d (Some (drop (length part) (b ∷ text))) (text_after_part part text))
    (begins part (b ∷ text) (drop n (b ∷ text)) split)
    ∙ ap (λ k. Some (drop k (b ∷ text))) same
part_stands part (b ∷ text) (suc at) zero ends before split = absurd (omega (arith, ends))
part_stands part (b ∷ text) (suc at) (suc n) ends before split =
    ap (λ d. cond d (Some (drop (length part) (b ∷ text))) (text_after_part part text))
    (begins_not part (b ∷ text) (before 0 (omega arith)))
    ∙ part_stands part text at n (omega (arith, ends)) (λ k below. before (suc k) (omega (arith, below))) split

-- `split_once` of std at a part returns the text after the first occurrence of the part
pub part_after : (part text : List ℕ) (r : Option (Bor (List ℕ) × Bor (List ℕ)))
    → MatchOption r (FindsText part text None)
    (λ x. (i : ℕ) × (j : ℕ) × FindsText part text (Some (i, j)) × (x.0.now ≡ take i text) × (x.1.now ≡ drop j text)
    × (i ≤ j) × (length x.0.now ≡ i) × (length x.1.now + j ≡ length text))
    → option_map (λ x. x.1.now) r ≡ text_after_part part text
part_after part text None h = sym (part_lacks part text h)
part_after part text (Some x) h = ap Some h.4 ∙ sym (part_stands part text h.0 h.1 h.2.1.ends h.2.0 h.2.1.split)
