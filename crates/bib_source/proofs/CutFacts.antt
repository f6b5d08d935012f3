-- Hunks cut from merged lines: they have runs if the lines are runs, and their changes are between the same ends.
use Rattle.std.proofs.Common.{◌≡◌, ℕ, ◌+◌, ◌-◌, ◌<◌, ◌≤◌, ◌⊎◌, inl, inr, false, List, [], ◌∷◌, ◌++◌, length, take, drop, get_or, Some, refl, ap, sym, ◌∙◌, subst, append_assoc, arith, length-append, length-drop}
use Rattle.std.specs.List.{AllByRecursion, slice_get}
use Rattle.std.proofs.Math.Seq.{take-append-add}
use Rattle.std.proofs.lemmas.Bool.{cases_lt, false≢true}
use Rattle.std.proofs.lemmas.List.{append-nil, drop_more, get_or-append-add, get_or_append_left, length-take, length-take-le, take-append-drop, take-append-le, take_more}
use Rattle.std.proofs.lemmas.Option.{get_or_from_slice_get, slice_get-get_or, slice_get_within}
use Rattle.bib_source.specs.Comparison.{AreRuns, is_changed, new_side, old_side}
use Rattle.bib_source.specs.Hunks.{AreBetweenEnds, Hunk, IsBetween}
use Rattle.bib_source.specs.Visible.{AreContext, BeginsWithContext, EndsInContext, IsCutOut, is_visible}
use Rattle.bib_source.specs.declared.comparison.Line.{Line}
use Rattle.bib_source.specs.declared.comparison.Line.TheVariants.{Context, Removed, Added}
use Rattle.bib_source.proofs.ComparisonFacts.{new_append, no_line, old_append}
use Rattle.bib_source.proofs.EndFacts.{last_same, no_last}
use Rattle.bib_source.proofs.HunkFacts.{joined, same_sides, unshown}
use Rattle.bib_source.proofs.RunFacts.{cut_at}

-- the lines before the last one, and the last one. Each list of lines is empty or has a last one (`last_of`)
record HasLast (lines : List Line) : Type 0 where
  before : List Line
  line : Line
  is : lines ≡ before ++ line ∷ []

last_of : (lines : List Line) → (lines ≡ []) ⊎ HasLast lines
last_of [] = inl refl
last_of (x ∷ xs) = elim (last_of xs) [
  | inl none ↦ inr (record { before = []; line = x; is = ap (λ ls. x ∷ ls) none })
  | inr some ↦ inr (record { before = x ∷ some.before; line = some.line; is = ap (λ ls. x ∷ ls) some.is })
]

-- the first part of runs is runs, if the part after it begins with a line of both texts
runs_before : (lines after : List Line) → BeginsWithContext after → AreRuns (lines ++ after) → AreRuns lines
runs_before lines [] begins all = subst AreRuns (append-nil lines) all
runs_before lines (Context line ∷ after) begins all = (cut_at lines after line all refl).0
runs_before lines (Removed line ∷ after) begins all = absurd (false≢true (sym (begins (Removed line) after refl)))
runs_before lines (Added line ∷ after) begins all = absurd (false≢true (sym (begins (Added line) after refl)))

-- the lines of runs after a line of both texts are runs
runs_after_line : (before lines : List Line) (line : Line) → is_changed line ≡ false → AreRuns (before ++ line ∷ lines) → AreRuns lines
runs_after_line before lines (Context line) is all = (cut_at before lines line all refl).1
runs_after_line before lines (Removed line) is all = absurd (false≢true (sym is))
runs_after_line before lines (Added line) is all = absurd (false≢true (sym is))

-- the last part of runs is runs, if the part before it ends with a line of both texts
runs_after : (before lines : List Line) → EndsInContext before → AreRuns (before ++ lines) → AreRuns lines
runs_after before lines ends all = elim (last_of before) [
  | inl none ↦ subst (λ ls. AreRuns (ls ++ lines)) none all
  | inr some ↦
      runs_after_line some.before lines some.line (ends some.before some.line some.is)
      (subst AreRuns (append_assoc some.before (some.line ∷ []) lines) (subst (λ ls. AreRuns (ls ++ lines)) some.is all))
]

-- a hunk that is cut from runs has runs
pub cut_runs : (lines : List Line) (hunk : Hunk) → AreRuns lines → IsCutOut lines hunk → AreRuns hunk.lines
cut_runs lines hunk all cut =
    runs_before hunk.lines cut.after cut.ends
    (runs_after cut.before (hunk.lines ++ cut.after) cut.starts (subst AreRuns cut.is all))

-- the line at an index of a hunk is that many lines after the start of the hunk in all lines
get_cut : (before lines after : List Line) (index : ℕ) (line : Line) → slice_get lines index ≡ Some line
    → slice_get (before ++ (lines ++ after)) (length before + index) ≡ Some line
get_cut before lines after index line is =
    let within : index < length lines = slice_get_within lines index line is in
    let size : length (before ++ (lines ++ after)) ≡ length before + (length lines + length after) =
    length-append before (lines ++ after) ∙ ap (λ n. length before + n) (length-append lines after) in
    slice_get-get_or (before ++ (lines ++ after)) (length before + index) line (omega (arith, within, size))
    ∙ ap Some
    (get_or-append-add before (lines ++ after) index line ∙ get_or_append_left lines after line index within
    ∙ get_or_from_slice_get lines index line line is)

-- the lines before a line of a hunk are the lines before the hunk and the lines before this line in it
take_cut : (before lines after : List Line) (index : ℕ) → index < length lines
    → take (length before + index) (before ++ (lines ++ after)) ≡ before ++ take index lines
take_cut before lines after index within =
    take-append-add before (lines ++ after) index ∙ ap (λ ls. before ++ ls) (take-append-le index lines after (omega (arith, within)))

-- a hunk that is cut from lines whose changes are between two ends has its changes between them
pub cut_between : (start removed added : ℕ) (lines : List Line) (hunk : Hunk)
    → IsBetween start removed added (record { old = 1; new = 1; lines = lines }) → IsCutOut lines hunk → IsBetween start removed added hunk
cut_between start removed added lines hunk all cut =
    let whole : IsBetween start removed added (record { old = 1; new = 1; lines = cut.before ++ (hunk.lines ++ cut.after) }) =
    subst (λ ls. IsBetween start removed added (record { old = 1; new = 1; lines = ls })) cut.is all in
    record {
      old = λ index line is.
          let at = length cut.before + index in
          let found = whole.old at line (get_cut cut.before hunk.lines cut.after index (Removed line) is) in
          let count : length (old_side (take at (cut.before ++ (hunk.lines ++ cut.after))))
          ≡ length (old_side cut.before) + length (old_side (take index hunk.lines)) =
          ap (λ ls. length (old_side ls))
          (take_cut cut.before hunk.lines cut.after index (slice_get_within hunk.lines index (Removed line) is))
          ∙ ap length (old_append cut.before (take index hunk.lines))
          ∙ length-append (old_side cut.before) (old_side (take index hunk.lines)) in
          (omega (arith, found.0, count, cut.old_is), omega (arith, found.1, count, cut.old_is));
      new = λ index line is.
          let at = length cut.before + index in
          let found = whole.new at line (get_cut cut.before hunk.lines cut.after index (Added line) is) in
          let count : length (new_side (take at (cut.before ++ (hunk.lines ++ cut.after))))
          ≡ length (new_side cut.before) + length (new_side (take index hunk.lines)) =
          ap (λ ls. length (new_side ls))
          (take_cut cut.before hunk.lines cut.after index (slice_get_within hunk.lines index (Added line) is))
          ∙ ap length (new_append cut.before (take index hunk.lines))
          ∙ length-append (new_side cut.before) (new_side (take index hunk.lines)) in
          (omega (arith, found.0, count, cut.new_is), omega (arith, found.1, count, cut.new_is));
    }

-- a property of each hunk that is cut out of the lines is one of all hunks of a list of such hunks
all_cut : (lines : List Line) (P : Hunk → Type 0) → ((hunk : Hunk) → IsCutOut lines hunk → P hunk) → (hunks : List Hunk)
    → AllByRecursion (IsCutOut lines) hunks → AllByRecursion P hunks
all_cut lines P each [] cut = tt
all_cut lines P each (hunk ∷ hunks) cut = (each hunk cut.0, all_cut lines P each hunks cut.1)

pub all_runs : (lines : List Line) (hunks : List Hunk) → AreRuns lines → AllByRecursion (IsCutOut lines) hunks
    → AllByRecursion (λ hunk. AreRuns hunk.lines) hunks
all_runs lines hunks all cut = all_cut lines (λ hunk. AreRuns hunk.lines) (λ hunk is. cut_runs lines hunk all is) hunks cut

pub all_between : (old new : List (List ℕ)) (lines : List Line) (hunks : List Hunk)
    → AreBetweenEnds old new ((record { old = 1; new = 1; lines = lines }) ∷ []) → AllByRecursion (IsCutOut lines) hunks
    → AreBetweenEnds old new hunks
all_between old new lines hunks all cut = record {
  start = all.start;
  removed = all.removed;
  added = all.added;
  end = all.end;
  ends = all.ends;
  between =
      all_cut lines (IsBetween (length all.start) (length all.removed) (length all.added))
      (λ hunk is. cut_between (length all.start) (length all.removed) (length all.added) lines hunk all.between.0 is) hunks cut;
}

-- the number of lines of one side up to `end` is that up to `start` plus that from `start` to `end`
pub old_up_to : (lines : List Line) (start end : ℕ) → start ≤ end
    → length (old_side (take end lines)) ≡ length (old_side (take start lines)) + length (old_side (take (end - start) (drop start lines)))
old_up_to lines start end low =
    ap (λ ls. length (old_side ls)) (sym (joined lines start end low))
    ∙ ap length (old_append (take start lines) (take (end - start) (drop start lines)))
    ∙ length-append (old_side (take start lines)) (old_side (take (end - start) (drop start lines)))

pub new_up_to : (lines : List Line) (start end : ℕ) → start ≤ end
    → length (new_side (take end lines)) ≡ length (new_side (take start lines)) + length (new_side (take (end - start) (drop start lines)))
new_up_to lines start end low =
    ap (λ ls. length (new_side ls)) (sym (joined lines start end low))
    ∙ ap length (new_append (take start lines) (take (end - start) (drop start lines)))
    ∙ length-append (new_side (take start lines)) (new_side (take (end - start) (drop start lines)))

-- a line number grows by the number of skipped lines, if these are lines of both texts
pub skipped_old : (lines : List Line) (at start number : ℕ) → at ≤ start → start ≤ length lines
    → AreContext (take (start - at) (drop at lines)) → number ≡ 1 + length (old_side (take at lines))
    → number + (start - at) ≡ 1 + length (old_side (take start lines))
skipped_old lines at start number low within context is =
    let skipped = take (start - at) (drop at lines) in
    let size : length (old_side skipped) ≡ start - at =
    (same_sides skipped context).1 ∙ length-take-le (start - at) (drop at lines) (omega (arith, length-drop at lines)) in
    omega (arith, is, size, old_up_to lines at start low)

pub skipped_new : (lines : List Line) (at start number : ℕ) → at ≤ start → start ≤ length lines
    → AreContext (take (start - at) (drop at lines)) → number ≡ 1 + length (new_side (take at lines))
    → number + (start - at) ≡ 1 + length (new_side (take start lines))
skipped_new lines at start number low within context is =
    let skipped = take (start - at) (drop at lines) in
    let size : length (new_side skipped) ≡ start - at =
    sym (ap length (same_sides skipped context).0) ∙ (same_sides skipped context).1
    ∙ length-take-le (start - at) (drop at lines) (omega (arith, length-drop at lines)) in
    omega (arith, is, size, new_up_to lines at start low)

-- `old` and `new` are the numbers of the lines after the first `at` merged lines in the old and in the new text
pub record AreNumbersAt (lines : List Line) (at old new : ℕ) : Type 0 where
  pub old_is : old ≡ 1 + length (old_side (take at lines))
  pub new_is : new ≡ 1 + length (new_side (take at lines))
  pub old_within : old ≤ at + 1
  pub new_within : new ≤ at + 1

-- the line numbers after lines up to `start` that are in both texts, and after the lines from `start` to `end`
pub numbers_after : (lines : List Line) (at start end old new of_old of_new : ℕ) → at ≤ start → start ≤ end
    → start ≤ length lines → AreContext (take (start - at) (drop at lines)) → AreNumbersAt lines at old new
    → of_old ≡ length (old_side (take (end - start) (drop start lines)))
    → of_new ≡ length (new_side (take (end - start) (drop start lines)))
    → of_old ≤ length (take (end - start) (drop start lines)) → of_new ≤ length (take (end - start) (drop start lines))
    → AreNumbersAt lines end (old + (start - at) + of_old) (new + (start - at) + of_new)
numbers_after lines at start end old new of_old of_new low high within context before counted counted' few few' =
    let size = length-take (end - start) (drop start lines) in
    record {
      old_is = omega (arith, skipped_old lines at start old low within context before.old_is, counted, old_up_to lines start end high);
      new_is = omega (arith, skipped_new lines at start new low within context before.new_is, counted', new_up_to lines start end high);
      old_within = omega (arith, low, high, before.old_within, few, size);
      new_within = omega (arith, low, high, before.new_within, few', size);
    }

-- an unchanged empty line, the default for an index past the end
abbrev d : Line
d = Context no_line

-- the lines from `start` to `end` and their line numbers are a hunk cut out of all lines, if the lines next to them aren't shown
pub cut_of : (lines : List Line) (start end old new : ℕ) → start < end → end ≤ length lines
    → old ≡ 1 + length (old_side (take start lines)) → new ≡ 1 + length (new_side (take start lines))
    → (0 < start → is_visible lines (start - 1) ≡ false) → (end < length lines → is_visible lines end ≡ false)
    → IsCutOut lines (record { old = old; new = new; lines = take (end - start) (drop start lines) })
cut_of lines start end old new some within old_is new_is first last = record {
  before = take start lines;
  after = drop end lines;
  is = whole;
  old_is = old_is;
  new_is = new_is;
  starts = λ before line is. starts before line is;
  ends = λ line rest is. ends line rest is;
}
  where
    whole : lines ≡ take start lines ++ (take (end - start) (drop start lines) ++ drop end lines)
    whole =
        sym (take-append-drop end lines) ∙ ap (λ ls. ls ++ drop end lines) (sym (joined lines start end (omega (arith, some))))
        ∙ append_assoc (take start lines) (take (end - start) (drop start lines)) (drop end lines)

    starts : EndsInContext (take start lines)
    starts = λ before line is.
        elim (cases_lt 0 start) [
          | inl early ↦
              let next : start - 1 + 1 ≡ start = omega (arith, early) in
              let split : take (start - 1) lines ++ get_or lines (start - 1) d ∷ [] ≡ before ++ line ∷ [] =
              sym (take_more lines (start - 1) d (omega (arith, early, some, within))) ∙ ap (λ n. take n lines) next ∙ is in
              ap is_changed (sym (last_same (take (start - 1) lines) before (get_or lines (start - 1) d) line split))
              ∙ unshown lines (start - 1) d (omega (arith, early, some, within)) (first early)
          | inr none ↦
              let zero-is : start ≡ 0 = omega (arith, none) in
              absurd (no_last before line (ap (λ n. take n lines) (sym zero-is) ∙ is))
        ]

    ends : BeginsWithContext (drop end lines)
    ends = λ line rest is.
        let inside : end < length lines = omega (arith, length-drop end lines, ap length is) in
        let split : get_or lines end d ∷ drop (end + 1) lines ≡ line ∷ rest = sym (drop_more lines end d inside) ∙ is in
        let same : get_or lines end d ≡ line = cc in
        ap is_changed (sym same) ∙ unshown lines end d inside (last inside)
