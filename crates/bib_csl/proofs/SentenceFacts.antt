-- Titles in sentence case, character by character.
use Rattle.std.proofs.Common.{◌≡◌, ◌++◌, ◌≤◌, ◌<◌, ◌+◌, ℕ, Bool, true, false, not, List, [], ◌∷◌, sym, ap, ap₂, ◌∙◌, append_assoc, ◌^◌, arith, subst, cond, ◌-◌, length, drop}
use Rattle.std.specs.Prelude.{◌==◌, encode_utf8, encode_utf8_all}
use Rattle.std.specs.Str.{chars, IsUtf8, IsCharBoundary}
use Rattle.std.proofs.lemmas.Str.{encodes-chars, len_utf8_bounds}
use Rattle.bib_text.specs.Characters as char
use Rattle.bib_text.specs.Places.{Place, CharAt, AtEnd}
use Rattle.bib_text.proofs.TextFacts.{ahead, MovesPast, passed_char, chars_at_end}
use Rattle.bib_csl.specs.declared.sentence.Context.{Context}
use Rattle.bib_csl.specs.Sentence.{cased, cased_from, context_after, context_in_tag, context_in_text, kept_depth_after, begins_tag, opens_element, closes_element}

-- the next character of a title is written
pub cased_step : (out more total after : List ℕ) (at next : Context) {u x : Place} {c d : ℕ} → CharAt u c x → IsUtf8 (ahead u)
    → after ≡ ahead x → d ≡ cased at c after → more ≡ out ++ encode_utf8 d → next ≡ context_after at c after
    → out ++ cased_from at (chars (ahead u)) ≡ total
    → (x.text ≡ u.text) × IsUtf8 (ahead x) × (more ++ cased_from next (chars (ahead x)) ≡ total)
cased_step out more total after at next {u} {x} {c} {d} char utf8 rest is wrote goes before =
    let passed : MovesPast u (c ∷ []) x = passed_char char utf8 in
    let spelt : after ≡ encode_utf8_all (chars (ahead x)) = rest ∙ sym (encodes-chars (ahead x) passed.utf8) in
    let bytes = encode_utf8_all (chars (ahead x)) in
    let ends = cased_from (context_after at c bytes) (chars (ahead x)) in (
      passed.same,
      passed.utf8,
      ap₂ (λ o n. o ++ cased_from n (chars (ahead x))) (wrote ∙ ap (λ e. out ++ encode_utf8 e) (is ∙ ap (cased at c) spelt))
          (goes ∙ ap (context_after at c) spelt)
          ∙ append_assoc out (encode_utf8 (cased at c bytes)) ends
          ∙ ap (λ cs. out ++ cased_from at cs) (sym passed.spelt) ∙ before,
    )

-- at the end of a title, nothing is left to write
pub cased_end : (out total : List ℕ) (at : Context) (u : Place) → AtEnd u → out ++ cased_from at (chars (ahead u)) ≡ total
    → out ++ [] ≡ total
cased_end out total at u end before = ap (λ cs. out ++ cased_from at cs) (sym (chars_at_end u end)) ∙ before

-- a tag opens at most one element
one_deeper : (depth : ℕ) (after : List ℕ) → kept_depth_after depth after ≤ depth + 1
unfolding kept_depth_after
one_deeper depth after = by (opens_element after) (closes_element after)
  where
    by : (opens closes : Bool) → cond opens (depth + 1) (cond closes (depth - 1) depth) ≤ depth + 1
    by true closes = omega arith
    by false true = omega arith
    by false false = omega arith

-- a character opens at most one element
pub deeper_by_one : (at : Context) (c : ℕ) (after : List ℕ) → (context_after at c after).depth ≤ at.depth + 1
unfolding context_after context_in_tag context_in_text
deeper_by_one at c after = by at.is_in_tag (begins_tag c after)
  where
    by : (in_tag begins : Bool)
        → (cond in_tag (context_in_tag at (not (c == char.greater)) at.depth)
        (cond begins (context_in_tag at true (kept_depth_after at.depth after)) (context_in_text at c))).depth
        ≤ at.depth + 1
    by true begins = omega arith
    by false true = one_deeper at.depth after
    by false false = omega arith

-- the number of open elements is at most the offset in the title, and so it is after the next character
pub depth_step : (at next : Context) (after : List ℕ) {u x : Place} {c : ℕ} → CharAt u c x → next ≡ context_after at c after
    → at.depth ≤ u.at → next.depth ≤ x.at
depth_step at next after {u} {x} {c} char goes low =
    let deeper : next.depth ≤ at.depth + 1 = subst (λ n. n.depth ≤ at.depth + 1) (sym goes) (deeper_by_one at c after) in
    let size = (len_utf8_bounds c).0 in
    let moved = char.next in
    omega (arith, deeper, size, moved, low)

-- the number of open elements is below the greatest length of a text
pub depth_fits : (at : Context) {u x : Place} {c n : ℕ} → CharAt u c x → n ≡ x.at → IsCharBoundary x.text n → length x.text < 2 ^ 63
    → at.depth ≤ u.at → at.depth < 2 ^ 63
depth_fits at {u} {x} {c} char is boundary fits low =
    let within = boundary.0 in
    let moved = char.next in
    omega (arith, within, moved, is, fits, low)

-- the text from the offset after a character is the text ahead of the cursor
pub rest_of_title : (title after : List ℕ) {u x : Place} {c n : ℕ} → CharAt u c x → u.text ≡ title → n ≡ x.at → after ≡ drop n title
    → after ≡ ahead x
rest_of_title title after {u} {x} char same is value =
    value ∙ ap (λ k. drop k title) is ∙ ap (drop x.at) (sym (char.same ∙ same))
