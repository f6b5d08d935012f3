-- How hunks turn lines into other lines, hunk by hunk.
use Rattle.std.proofs.Common.{◌≡◌, ℕ, zero, suc, ◌+◌, ◌-◌, ◌<◌, ◌≤◌, min, Bool, false, List, [], ◌∷◌, ◌++◌, length, take, drop, get_or, refl, ap, sym, ◌∙◌, subst, arith, append_assoc, length-append, length-drop, take-add}
use Rattle.std.proofs.lemmas.Bool.{false≢true, or_parts}
use Rattle.std.specs.List.{list_any}
use Rattle.std.proofs.lemmas.List.{drop_more, get_or-drop, get_or-take, length-take, length-take-le}
use Rattle.bib_source.specs.Comparison.{is_changed, new_side, old_side}
use Rattle.bib_source.specs.Hunks.{Hunk, Make}
use Rattle.bib_source.specs.Hunks.{Make as make}
use Rattle.bib_source.specs.Visible.{AreContext, is_visible, near}
use Rattle.bib_source.specs.declared.comparison.Line.{Line}
use Rattle.bib_source.specs.declared.comparison.Line.TheVariants.{Context, Removed, Added}
use Rattle.bib_source.proofs.ComparisonFacts.{new_append, old_append}

-- hunks of the lines after `before` are also hunks of `before` and those lines, and they keep `before`
pub make_skip : {old new : ℕ} {hunks : List Hunk} {rest rest' : List (List ℕ)} (before : List (List ℕ))
    → Make (old + length before) (new + length before) hunks rest rest'
    → Make old new hunks (before ++ rest) (before ++ rest')
make_skip before make.none = make.none
make_skip {old} {new} before (make.next {hunk = hunk} {hunks = hunks} {rest = rest} {rest' = rest'} more is is' made) =
    let size = length-append before more in
    subst (λ xs. Make old new (hunk ∷ hunks) xs (before ++ (more ++ (new_side hunk.lines ++ rest'))))
    (append_assoc before more (old_side hunk.lines ++ rest))
    (subst (λ ys. Make old new (hunk ∷ hunks) ((before ++ more) ++ (old_side hunk.lines ++ rest)) ys)
    (append_assoc before more (new_side hunk.lines ++ rest'))
    (make.next (before ++ more) (omega (arith, is, size)) (omega (arith, is', size)) made))

-- a hunk at the start and the hunks after it turn the lines of both into the new ones
pub make_hunk : (old new : ℕ) (lines : List Line) {hunks : List Hunk} {rest rest' : List (List ℕ)}
    → Make (old + length (old_side lines)) (new + length (new_side lines)) hunks rest rest'
    → Make old new ((record { old = old; new = new; lines = lines }) ∷ hunks) (old_side lines ++ rest) (new_side lines ++ rest')
make_hunk old new lines made = make.next [] (omega arith) (omega arith) made

-- context lines are the same on both sides, and each of them is on the old side
pub same_sides : (lines : List Line) → AreContext lines → (old_side lines ≡ new_side lines) × (length (old_side lines) ≡ length lines)
same_sides [] all = (refl, refl)
same_sides (Context line ∷ lines) all =
    let rest = same_sides lines all.1 in
    (ap (λ ls. line.now ∷ ls) rest.0, ap suc rest.1)
same_sides (Removed line ∷ lines) all = absurd (false≢true (sym all.0))
same_sides (Added line ∷ lines) all = absurd (false≢true (sym all.0))

-- the lines up to `start` and from there to `end` are the lines up to `end`
pub joined : (lines : List Line) (start end : ℕ) → start ≤ end → take start lines ++ take (end - start) (drop start lines) ≡ take end lines
joined lines start end low =
    let size : start + (end - start) ≡ end = omega arith in
    sym (take-add start (end - start) lines) ∙ ap (λ n. take n lines) size

-- the hunks so far are extended by skipped equal lines from `at` to `start`, and by shown lines from `start` to `end`
pub step : (lines : List Line) (at start end old new : ℕ) (made more : List Hunk) (rest rest' : List (List ℕ))
    → at ≤ start → start ≤ end → end ≤ length lines
    → AreContext (take (start - at) (drop at lines))
    →
    ((more : List Hunk) (rest rest' : List (List ℕ)) → Make old new more rest rest'
    → Make 1 1 (made ++ more) (old_side (take at lines) ++ rest) (new_side (take at lines) ++ rest'))
    → Make (old + (start - at)) (new + (start - at)) more (old_side (take (end - start) (drop start lines)) ++ rest)
    (new_side (take (end - start) (drop start lines)) ++ rest')
    → Make 1 1 (made ++ more) (old_side (take end lines) ++ rest) (new_side (take end lines) ++ rest')
step lines at start end old new made more rest rest' low high within context before following =
    let skipped = take (start - at) (drop at lines) in
    let shown = take (end - start) (drop start lines) in
    let sides = same_sides skipped context in
    let size : length (old_side skipped) ≡ start - at =
    sides.1 ∙ length-take-le (start - at) (drop at lines) (omega (arith, length-drop at lines)) in
    let size' : length (new_side skipped) ≡ start - at = ap length (sym sides.0) ∙ size in
    let made_after : Make old new more (old_side skipped ++ (old_side shown ++ rest)) (new_side skipped ++ (new_side shown ++ rest')) =
    subst (λ ls. Make old new more (old_side skipped ++ (old_side shown ++ rest)) (ls ++ (new_side shown ++ rest'))) sides.0
    (make_skip (old_side skipped)
    (subst (λ n. Make (old + n) (new + n) more (old_side shown ++ rest) (new_side shown ++ rest')) (sym size)
    following)) in
    let whole = before more (old_side skipped ++ (old_side shown ++ rest)) (new_side skipped ++ (new_side shown ++ rest')) made_after in
    let parts : take end lines ≡ (take at lines ++ skipped) ++ shown =
    sym (joined lines start end high) ∙ ap (λ ls. ls ++ shown) (sym (joined lines at start low)) in
    let olds : old_side (take at lines) ++ (old_side skipped ++ (old_side shown ++ rest)) ≡ old_side (take end lines) ++ rest =
    sym (append_assoc (old_side (take at lines)) (old_side skipped) (old_side shown ++ rest))
    ∙ sym (append_assoc (old_side (take at lines) ++ old_side skipped) (old_side shown) rest)
    ∙ ap (λ ls. (ls ++ old_side shown) ++ rest) (sym (old_append (take at lines) skipped))
    ∙ ap (λ ls. ls ++ rest) (sym (old_append (take at lines ++ skipped) shown))
    ∙ ap (λ ls. old_side ls ++ rest) (sym parts) in
    let news : new_side (take at lines) ++ (new_side skipped ++ (new_side shown ++ rest')) ≡ new_side (take end lines) ++ rest' =
    sym (append_assoc (new_side (take at lines)) (new_side skipped) (new_side shown ++ rest'))
    ∙ sym (append_assoc (new_side (take at lines) ++ new_side skipped) (new_side shown) rest')
    ∙ ap (λ ls. (ls ++ new_side shown) ++ rest') (sym (new_append (take at lines) skipped))
    ∙ ap (λ ls. ls ++ rest') (sym (new_append (take at lines ++ skipped) shown))
    ∙ ap (λ ls. new_side ls ++ rest') (sym parts) in
    subst (λ ls. Make 1 1 (made ++ more) ls (new_side (take end lines) ++ rest')) olds
    (subst
    (λ ls.
    Make 1 1 (made ++ more) (old_side (take at lines) ++ (old_side skipped ++ (old_side shown ++ rest))) ls)
    news whole)

-- if no element of a list passes a test, the element at each index fails it
none_at : (p : Line → Bool) (xs : List Line) (i : ℕ) (d : Line) → i < length xs → list_any p xs ≡ false → p (get_or xs i d) ≡ false
none_at p [] i d low none = let no : ⊥ = omega (arith, low) in absurd no
none_at p (x ∷ xs) zero d low none = (or_parts (p x) (list_any p xs) none).0
none_at p (x ∷ xs) (suc i) d low none = none_at p xs i d (omega (arith, low)) (or_parts (p x) (list_any p xs) none).1

-- a line that isn't shown hasn't changed
pub unshown : (lines : List Line) (index : ℕ) (d : Line) → index < length lines → is_visible lines index ≡ false
    → is_changed (get_or lines index d) ≡ false
unshown lines index d within hidden =
    let count = min (length lines) (index + 4) - (index - 3) in
    let offset = index - (index - 3) in
    let low : offset < count = omega (arith, within) in
    let long : offset < length (near lines index) =
    omega (arith, length-take count (drop (index - 3) lines), length-drop (index - 3) lines, within, low) in
    let at : index - 3 + offset ≡ index = omega arith in
    ap is_changed
    (sym
    (get_or-take count (drop (index - 3) lines) offset d low ∙ get_or-drop (index - 3) lines offset d
    ∙ ap (λ n. get_or lines n d) at))
    ∙ none_at is_changed (near lines index) offset d long hidden

-- lines that aren't shown are in both texts
pub hidden_context : (lines : List Line) (start count : ℕ) → start + count ≤ length lines
    → ((i : ℕ) → start ≤ i → i < start + count → is_visible lines i ≡ false)
    → AreContext (take count (drop start lines))
hidden_context lines start zero within hidden = _
hidden_context [] start (suc count) within hidden = let no : ⊥ = omega (arith, within) in absurd no
hidden_context (d ∷ ls) start (suc count) within hidden =
    let lines = d ∷ ls in
    let within' : start < length lines = omega (arith, within) in
    let first : is_changed (get_or lines start d) ≡ false = unshown lines start d within' (hidden start (omega arith) (omega arith)) in
    let rest =
    hidden_context lines (start + 1) count (omega (arith, within))
    (λ i low high. hidden i (omega (arith, low)) (omega (arith, high))) in
    subst (λ xs. AreContext (take (suc count) xs)) (sym (drop_more lines start d within')) (first, rest)

-- the hunks so far are extended by hidden lines and one more hunk
pub next_hunk : (lines : List Line) (at start end old new : ℕ) (made more : List Hunk) (rest rest' : List (List ℕ))
    (olds news : ℕ) → at ≤ start → start ≤ end → end ≤ length lines
    → AreContext (take (start - at) (drop at lines))
    →
    ((more : List Hunk) (rest rest' : List (List ℕ)) → Make old new more rest rest'
    → Make 1 1 (made ++ more) (old_side (take at lines) ++ rest) (new_side (take at lines) ++ rest'))
    → olds ≡ length (old_side (take (end - start) (drop start lines))) → news ≡ length (new_side (take (end - start) (drop start lines)))
    → Make (old + (start - at) + olds) (new + (start - at) + news) more rest rest'
    → Make 1 1
    ((made
    ++
    (record {
      old = old + (start - at);
      new = new + (start - at);
      lines = take (end - start) (drop start lines);
    }) ∷ []) ++ more)
    (old_side (take end lines) ++ rest) (new_side (take end lines) ++ rest')
next_hunk lines at start end old new made more rest rest' olds news low high within context before is is' following =
    let hunk : Hunk = record { old = old + (start - at); new = new + (start - at); lines = take (end - start) (drop start lines) } in
    subst (λ hs. Make 1 1 hs (old_side (take end lines) ++ rest) (new_side (take end lines) ++ rest'))
    (sym (append_assoc made (hunk ∷ []) more))
    (step lines at start end old new made (hunk ∷ more) rest rest' low high within context before (make_hunk
    (old + (start - at)) (new + (start - at)) (take (end - start) (drop start lines))
    (subst
    (λ n.
    Make (old + (start - at) + n)
    (new + (start - at) + length (new_side (take (end - start) (drop start lines)))) more rest rest') is
    (subst (λ n. Make (old + (start - at) + olds) (new + (start - at) + n) more rest rest') is' following))))

-- the hunks so far are extended by hidden lines up to the end, without another hunk
pub last_lines : (lines : List Line) (at start end old new : ℕ) (made more : List Hunk) (rest rest' : List (List ℕ))
    (olds news : ℕ) → at ≤ start → start ≤ end → end ≤ length lines → end ≤ start
    → AreContext (take (start - at) (drop at lines))
    →
    ((more : List Hunk) (rest rest' : List (List ℕ)) → Make old new more rest rest'
    → Make 1 1 (made ++ more) (old_side (take at lines) ++ rest) (new_side (take at lines) ++ rest'))
    → olds ≡ length (old_side (take (end - start) (drop start lines))) → news ≡ length (new_side (take (end - start) (drop start lines)))
    → Make (old + (start - at) + olds) (new + (start - at) + news) more rest rest'
    → Make 1 1 (made ++ more) (old_side (take end lines) ++ rest) (new_side (take end lines) ++ rest')
last_lines lines at start end old new made more rest rest' olds news low high within none context before is is' following =
    let count : end - start ≡ 0 = omega (arith, none) in
    let shown : take (end - start) (drop start lines) ≡ [] = ap (λ n. take n (drop start lines)) count in
    let no_old : old + (start - at) + olds ≡ old + (start - at) = omega (arith, is ∙ ap (λ ls. length (old_side ls)) shown) in
    let no_new : new + (start - at) + news ≡ new + (start - at) = omega (arith, is' ∙ ap (λ ls. length (new_side ls)) shown) in
    step lines at start end old new made more rest rest' low high within context before
    (subst (λ ls. Make (old + (start - at)) (new + (start - at)) more (old_side ls ++ rest) (new_side ls ++ rest')) (sym shown)
    (subst (λ n. Make n (new + (start - at)) more rest rest') no_old
    (subst (λ n. Make (old + (start - at) + olds) n more rest rest') no_new following)))
