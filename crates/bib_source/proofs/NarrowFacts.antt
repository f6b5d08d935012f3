-- Hunks show only lines near a change.
use Rattle.std.proofs.Common.{◌≡◌, ℕ, suc, ◌+◌, ◌-◌, ◌<◌, ◌≤◌, ◌||◌, min, Bool, true, false, List, [], ◌∷◌, length, take, drop, get_or, inl, inr, refl, ap, sym, ◌∙◌, arith, length-drop}
use Rattle.std.specs.List.{list_any}
use Rattle.std.proofs.lemmas.Bool.{cases_lt, false≢true}
use Rattle.std.proofs.lemmas.List.{get_or-drop, get_or-take, length-take, length-take-le}
use Rattle.std.proofs.lemmas.List.Folds.{list_any_at}
use Rattle.std.proofs.lemmas.Option.{slice_get-get_or}
use Rattle.bib_source.specs.Comparison.{is_changed}
use Rattle.bib_source.specs.Hunks.{IsNarrow, IsNearChange}
use Rattle.bib_source.specs.Visible.{is_visible, near}
use Rattle.bib_source.specs.declared.comparison.Line.{Line}
use Rattle.bib_source.specs.declared.comparison.Line.TheVariants.{Context}
use Rattle.bib_source.proofs.ComparisonFacts.{no_line}

-- an unchanged empty line, the default for an index past the end
abbrev d : Line
d = Context no_line

-- the index of a line that passes a test
record Passes (p : Line → Bool) (lines : List Line) : Type 0 where
  at : ℕ
  within : at < length lines
  passes : p (get_or lines at d) ≡ true

passes_of : (p : Line → Bool) (lines : List Line) → list_any p lines ≡ true → Passes p lines
passes_of p [] is = absurd (false≢true is)
passes_of p (x ∷ xs) is = by_case (p x) refl is (passes_of p xs)
  where
    by_case : (b : Bool) → p x ≡ b → (b || list_any p xs) ≡ true → (list_any p xs ≡ true → Passes p xs) → Passes p (x ∷ xs)
    by_case true here some later = record { at = 0; within = omega arith; passes = here }
    by_case false here some later = record {
      at = suc (later some).at;
      within = omega (arith, (later some).within);
      passes = (later some).passes;
    }

-- a changed line at most three lines from `index`
record HasChange (lines : List Line) (index : ℕ) : Type 0 where
  at : ℕ
  within : at < length lines
  changed : is_changed (get_or lines at d) ≡ true
  before : at ≤ index + 3
  after : index ≤ at + 3

-- a shown line has a changed line near it
shown_change : (lines : List Line) (index : ℕ) → is_visible lines index ≡ true → HasChange lines index
shown_change lines index shown =
    let count = min (length lines) (index + 4) - (index - 3) in
    let found = passes_of is_changed (near lines index) shown in
    let low : found.at < count = omega (arith, found.within, length-take count (drop (index - 3) lines)) in
    let high : found.at < length lines - (index - 3) =
    omega (arith, found.within, length-take count (drop (index - 3) lines), length-drop (index - 3) lines) in
    record {
      at = index - 3 + found.at;
      within = omega (arith, high);
      changed =
          ap is_changed
          (sym
          (get_or-take count (drop (index - 3) lines) found.at d low
          ∙ get_or-drop (index - 3) lines found.at d)) ∙ found.passes;
      before = omega (arith, low);
      after = omega (arith, low);
    }

-- a line with a changed line near it is shown
change_shown : (lines : List Line) (index : ℕ) → index < length lines → (c : HasChange lines index) → is_visible lines index ≡ true
change_shown lines index inside c =
    let count = min (length lines) (index + 4) - (index - 3) in
    let offset = c.at - (index - 3) in
    let low : offset < count = omega (arith, c.within, c.before, c.after) in
    let long : offset < length (near lines index) =
    omega (arith, length-take count (drop (index - 3) lines), length-drop (index - 3) lines, c.within, low, c.after) in
    let at : index - 3 + offset ≡ c.at = omega (arith, c.after) in
    list_any_at is_changed (near lines index) offset d long
    (ap is_changed
    (get_or-take count (drop (index - 3) lines) offset d low ∙ get_or-drop (index - 3) lines offset d
    ∙ ap (λ n. get_or lines n d) at) ∙ c.changed)

-- one or more shown lines with no shown line right before or right after them are a narrow hunk
pub narrow_run : (lines : List Line) (start end old new : ℕ) → start < end → end ≤ length lines
    → ((i : ℕ) → start ≤ i → i < end → is_visible lines i ≡ true)
    → (0 < start → is_visible lines (start - 1) ≡ false) → (end < length lines → is_visible lines end ≡ false)
    → IsNarrow (record { old = old; new = new; lines = take (end - start) (drop start lines) })
narrow_run lines start end old new some within shown first last = record {
  some = omega (arith, size);
  near = λ index inside. at_index index (omega (arith, inside, size));
}
  where
    size : length (take (end - start) (drop start lines)) ≡ end - start
    size = length-take-le (end - start) (drop start lines) (omega (arith, length-drop start lines, some, within))

    not_before : (index : ℕ) (c : HasChange lines index) → start ≤ index → start ≤ c.at
    not_before index c low = elim (cases_lt c.at start) [
      | inl early ↦
          let again : HasChange lines (start - 1) =
          record {
            at = c.at;
            within = c.within;
            changed = c.changed;
            before = omega (arith, early);
            after = omega (arith, early, c.after, low);
          } in
          absurd
          (false≢true
          (sym (first (omega (arith, early)))
          ∙ change_shown lines (start - 1) (omega (arith, early, some, within)) again))
      | inr late ↦ late
    ]

    not_after : (index : ℕ) (c : HasChange lines index) → index < end → c.at < end
    not_after index c high = elim (cases_lt c.at end) [
      | inl early ↦ early
      | inr late ↦
          let inside : end < length lines = omega (arith, late, c.within) in
          let again : HasChange lines end =
          record {
            at = c.at;
            within = c.within;
            changed = c.changed;
            before = omega (arith, c.before, high);
            after = omega (arith, late);
          } in
          absurd (false≢true (sym (last inside) ∙ change_shown lines end inside again))
    ]

    at_index : (index : ℕ) → index < end - start → IsNearChange (take (end - start) (drop start lines)) index
    at_index index inside =
        let c = shown_change lines (start + index) (shown (start + index) (omega arith) (omega (arith, inside))) in
        let low = not_before (start + index) c (omega arith) in
        let high = not_after (start + index) c (omega (arith, inside)) in
        let offset = c.at - start in
        let below : offset < end - start = omega (arith, low, high) in
        let at : start + offset ≡ c.at = omega (arith, low) in
        let is : get_or (take (end - start) (drop start lines)) offset d ≡ get_or lines c.at d =
        get_or-take (end - start) (drop start lines) offset d below ∙ get_or-drop start lines offset d
        ∙ ap (λ n. get_or lines n d) at in
        record {
          at = offset;
          line = get_or (take (end - start) (drop start lines)) offset d;
          stands = slice_get-get_or (take (end - start) (drop start lines)) offset d (omega (arith, below, size));
          changed = ap is_changed is ∙ c.changed;
          before = omega (arith, low, c.before);
          after = omega (arith, low, c.after);
        }

-- the line before the first shown line after hidden lines isn't shown
pub shown_after : (lines : List Line) (at start end : ℕ) → at ≤ start → start < end → end ≤ length lines
    → ((i : ℕ) → at ≤ i → i < start → is_visible lines i ≡ false)
    → (0 < at → at < length lines → is_visible lines at ≡ false) → is_visible lines start ≡ true → 0 < start
    → is_visible lines (start - 1) ≡ false
shown_after lines at start end low some within hidden ended shown after = elim (cases_lt at start) [
  | inl early ↦ hidden (start - 1) (omega (arith, early)) (omega (arith, after))
  | inr late ↦
      let same : at ≡ start = omega (arith, low, late) in
      absurd
      (false≢true
      (sym (ended (omega (arith, same, after)) (omega (arith, same, some, within))) ∙ ap (is_visible lines) same
      ∙ shown))
]
