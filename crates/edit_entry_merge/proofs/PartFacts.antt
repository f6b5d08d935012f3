-- The parts of two lists of lines are unique: they are those that the function cuts out.
use Rattle.std.proofs.Common.{◌≡◌, ℕ, suc, ◌+◌, ◌-◌, ◌≤◌, Bool, true, false, cond, List, [], ◌∷◌, ◌++◌, length, take, drop, refl, sym, ap, ap₂, ◌∙◌, arith, reverse}
use Rattle.std.specs.Prelude.{bytes_eq, IfOk, Result, Ok, Err}
use Rattle.std.proofs.Math.Seq.{drop-append_seam, take-append_seam}
use Rattle.std.proofs.lemmas.List.{length-append, length-reverse, length-take-le, reverse-append, reverse-reverse, take-append-drop}
use Rattle.std.proofs.lemmas.Slice.Eq.{bytes_eq-Decides}
use Rattle.edit_entry_merge.specs.ConflictTexts.{AreConflictParts, ConflictParts, IsMarkedText, MarkerLines, begin_with_same, between_markers, conflict_parts, end_alike, lines_as_text, marked_lines, shared_lines}
use Rattle.edit_entry_merge.proofs.LineFacts.{parts_are}

-- ---- the number of shared lines

shared_append : (s a b : List (List ℕ)) → shared_lines (s ++ a) (s ++ b) ≡ length s + shared_lines a b
shared_append [] a b = omega (arith)
shared_append (l ∷ s) a b =
    ap (λ same. cond same (1 + shared_lines (s ++ a) (s ++ b)) 0) ((bytes_eq-Decides l l).1 refl)
    ∙ omega (arith, shared_append s a b)

none_shared : (a b : List (List ℕ)) → begin_with_same a b ≡ false → shared_lines a b ≡ 0
none_shared [] b other = refl
none_shared (l ∷ a) [] other = refl
none_shared (l ∷ a) (m ∷ b) other = ap (λ same. cond same (1 + shared_lines a b) 0) other

-- lists share exactly this start if the rests begin with other lines
shared_start : (s a b : List (List ℕ)) → begin_with_same a b ≡ false → shared_lines (s ++ a) (s ++ b) ≡ length s
shared_start s a b other = omega (arith, shared_append s a b, none_shared a b other)

-- and exactly this end
shared_end : (a b e : List (List ℕ)) → end_alike a b ≡ false → shared_lines (reverse (a ++ e)) (reverse (b ++ e)) ≡ length e
shared_end a b e other =
    ap₂ shared_lines (reverse-append a e) (reverse-append b e) ∙ shared_start (reverse e) (reverse a) (reverse b) other ∙ length-reverse e

-- ---- the parts

front : (x e r : List (List ℕ)) (k : ℕ) → r ≡ x ++ e → k ≡ length e → take (length r - k) r ≡ x
front x e r k is count =
    ap (λ l. take (length l - k) l) is ∙ ap (λ n. take n (x ++ e)) (omega (arith, length-append x e, count)) ∙ take-append_seam x e

back : (x e r : List (List ℕ)) (k : ℕ) → r ≡ x ++ e → k ≡ length e → drop (length r - k) r ≡ e
back x e r k is count =
    ap (λ l. drop (length l - k) l) is ∙ ap (λ n. drop n (x ++ e)) (omega (arith, length-append x e, count)) ∙ drop-append_seam x e

module _ (ls ms : List (List ℕ)) (p : ConflictParts) (are : AreConflictParts ls ms p) where
  abbrev n : ℕ
  n = shared_lines ls ms

  abbrev k : ℕ
  k = shared_lines (reverse (drop n ls)) (reverse (drop n ms))

  start_count : n ≡ length p.start
  start_count =
      ap₂ shared_lines are.our_lines are.their_lines ∙ shared_start p.start (p.ours ++ p.end) (p.theirs ++ p.end) are.start_is_longest

  our_rest : drop n ls ≡ p.ours ++ p.end
  our_rest = ap₂ drop start_count are.our_lines ∙ drop-append_seam p.start (p.ours ++ p.end)

  their_rest : drop n ms ≡ p.theirs ++ p.end
  their_rest = ap₂ drop start_count are.their_lines ∙ drop-append_seam p.start (p.theirs ++ p.end)

  end_count : k ≡ length p.end
  end_count =
      ap₂ (λ a b. shared_lines (reverse a) (reverse b)) our_rest their_rest ∙ shared_end p.ours p.theirs p.end are.end_is_longest

  -- the parts are those that the function cuts out
  pub lines_alike : (m : MarkerLines) → marked_lines m (conflict_parts ls ms) ≡ marked_lines m p
  lines_alike m =
      ap₂ (λ a b. a ++ b) (ap₂ take start_count are.our_lines ∙ take-append_seam p.start (p.ours ++ p.end))
      (ap₂ (λ a b. a ++ b)
      (ap₂ (between_markers m) (front p.ours p.end (drop n ls) k our_rest end_count)
      (front p.theirs p.end (drop n ms) k their_rest end_count))
      (back p.ours p.end (drop n ls) k our_rest end_count))

-- a marked text of these lines is the one that the function says
pub text_alike : {S E : Type 0} (bytes : S → List ℕ) (r : Result S E) (m : MarkerLines) {ls ms ours theirs : List (List ℕ)}
    → ls ≡ ours → ms ≡ theirs → IfOk r (λ text. IsMarkedText m ls ms (bytes text))
    → IfOk r (λ text. bytes text ≡ lines_as_text (marked_lines m (conflict_parts ours theirs)))
text_alike bytes (Ok text) m {ls} {ms} our_lines their_lines marked =
    marked.is ∙ ap lines_as_text (sym (lines_alike ls ms marked.parts marked.are m))
    ∙ ap₂ (λ a b. lines_as_text (marked_lines m (conflict_parts a b))) our_lines their_lines
text_alike bytes (Err e) m our_lines their_lines none = tt

-- ---- the parts exist

one_more : (n : ℕ) → 1 + n ≡ suc n
one_more n = omega (arith)

-- the lines that two lists share at their start are the same
shared_alike : (ls ms : List (List ℕ)) → take (shared_lines ls ms) ls ≡ take (shared_lines ls ms) ms
shared_alike [] ms = refl
shared_alike (l ∷ ls) [] = refl
shared_alike (l ∷ ls) (m ∷ ms) = by_test (bytes_eq l m) refl (shared_alike ls ms)
  where
    by_test : (same : Bool) → bytes_eq l m ≡ same → take (shared_lines ls ms) ls ≡ take (shared_lines ls ms) ms
        → take (cond same (1 + shared_lines ls ms) 0) (l ∷ ls) ≡ take (cond same (1 + shared_lines ls ms) 0) (m ∷ ms)
    by_test true is rest =
        ap (λ k. take k (l ∷ ls)) (one_more (shared_lines ls ms)) ∙ ap₂ (λ x xs. x ∷ xs) ((bytes_eq-Decides l m).0 is) rest
        ∙ sym (ap (λ k. take k (m ∷ ms)) (one_more (shared_lines ls ms)))
    by_test false is rest = refl

-- and the rests don't begin with the same line
rests_differ : (ls ms : List (List ℕ)) → begin_with_same (drop (shared_lines ls ms) ls) (drop (shared_lines ls ms) ms) ≡ false
rests_differ [] ms = refl
rests_differ (l ∷ ls) [] = refl
rests_differ (l ∷ ls) (m ∷ ms) = by_test (bytes_eq l m) refl (rests_differ ls ms)
  where
    by_test : (same : Bool) → bytes_eq l m ≡ same
        → begin_with_same (drop (shared_lines ls ms) ls) (drop (shared_lines ls ms) ms) ≡ false
        → begin_with_same (drop (cond same (1 + shared_lines ls ms) 0) (l ∷ ls)) (drop (cond same (1 + shared_lines ls ms) 0) (m ∷ ms))
        ≡ false
    by_test true is rest =
        ap (λ k. begin_with_same (drop k (l ∷ ls)) (drop k (m ∷ ms))) (one_more (shared_lines ls ms)) ∙ rest
    by_test false is rest = is

shared_within : (ls ms : List (List ℕ)) → shared_lines ls ms ≤ length ls
shared_within [] ms = omega (arith)
shared_within (l ∷ ls) [] = omega (arith)
shared_within (l ∷ ls) (m ∷ ms) = by_test (bytes_eq l m) (shared_within ls ms)
  where
    by_test : (same : Bool) → shared_lines ls ms ≤ length ls → cond same (1 + shared_lines ls ms) 0 ≤ length (l ∷ ls)
    by_test true within = omega (arith, within)
    by_test false within = omega (arith)

shared_within_other : (ls ms : List (List ℕ)) → shared_lines ls ms ≤ length ms
shared_within_other [] ms = omega (arith)
shared_within_other (l ∷ ls) [] = omega (arith)
shared_within_other (l ∷ ls) (m ∷ ms) = by_test (bytes_eq l m) (shared_within_other ls ms)
  where
    by_test : (same : Bool) → shared_lines ls ms ≤ length ms → cond same (1 + shared_lines ls ms) 0 ≤ length (m ∷ ms)
    by_test true within = omega (arith, within)
    by_test false within = omega (arith)

-- the first and the last elements of a list are those of the reversed list
ends_of : (rs : List (List ℕ)) (k : ℕ) → rs ≡ reverse (drop k (reverse rs)) ++ reverse (take k (reverse rs))
ends_of rs k =
    sym (reverse-reverse rs) ∙ ap reverse (sym (take-append-drop k (reverse rs)))
    ∙ reverse-append (take k (reverse rs)) (drop k (reverse rs))

-- the parts that the function cuts out are the parts
pub cut_parts_are : (ls ms : List (List ℕ)) → AreConflictParts ls ms (conflict_parts ls ms)
cut_parts_are ls ms =
    let n : ℕ = shared_lines ls ms in
    let rs : List (List ℕ) = drop n ls in
    let qs : List (List ℕ) = drop n ms in
    let k : ℕ = shared_lines (reverse rs) (reverse qs) in
    let our_front : take (length rs - k) rs ≡ reverse (drop k (reverse rs)) =
    front _ _ rs k (ends_of rs k) (count rs k (shared_within (reverse rs) (reverse qs))) in
    let their_front : take (length qs - k) qs ≡ reverse (drop k (reverse qs)) =
    front _ _ qs k (ends_of qs k) (count qs k (shared_within_other (reverse rs) (reverse qs))) in
    let our_back : drop (length rs - k) rs ≡ reverse (take k (reverse rs)) =
    back _ _ rs k (ends_of rs k) (count rs k (shared_within (reverse rs) (reverse qs))) in
    let their_back : drop (length qs - k) qs ≡ reverse (take k (reverse qs)) =
    back _ _ qs k (ends_of qs k) (count qs k (shared_within_other (reverse rs) (reverse qs))) in
    parts_are ls ms rs qs n (length rs - k) (length qs - k) refl refl (shared_alike ls ms)
    (our_back ∙ ap reverse (shared_alike (reverse rs) (reverse qs)) ∙ sym their_back) (rests_differ ls ms)
    (ap₂ end_alike our_front their_front
    ∙ ap₂ begin_with_same (reverse-reverse (drop k (reverse rs))) (reverse-reverse (drop k (reverse qs)))
    ∙ rests_differ (reverse rs) (reverse qs))
  where
    count : (rs : List (List ℕ)) (k : ℕ) → k ≤ length (reverse rs) → k ≡ length (reverse (take k (reverse rs)))
    count rs k within = sym (length-reverse (take k (reverse rs)) ∙ length-take-le k (reverse rs) within)
