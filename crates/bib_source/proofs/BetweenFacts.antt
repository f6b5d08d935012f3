-- Changed lines are between the common start and the common end.
use Rattle.std.proofs.Common.{◌≡◌, ℕ, zero, suc, ◌+◌, ◌<◌, ◌≤◌, List, [], ◌∷◌, ◌++◌, length, map, take, Some, ap, sym, subst, arith}
use Rattle.std.specs.Borrow.{Bor}
use Rattle.std.specs.List.{slice_get}
use Rattle.std.proofs.lemmas.List.{append-nil, length-map}
use Rattle.bib_source.specs.Comparison.{HaveCommonEnds, new_side, old_side, line_texts}
use Rattle.bib_source.specs.Hunks.{AreBetweenEnds}
use Rattle.bib_source.specs.declared.comparison.Line.{Line}
use Rattle.bib_source.specs.declared.comparison.Line.TheVariants.{Context, Removed, Added}
use Rattle.bib_source.proofs.EndFacts.{no_last}

-- no removed line is among lines of both texts
none_removed : (lines : List (Bor (List ℕ))) (index : ℕ) (line : Bor (List ℕ))
    → slice_get (map Context lines) index ≡ Some (Removed line) → ⊥
none_removed [] index line is = cc
none_removed (l ∷ lines) zero line is = cc
none_removed (l ∷ lines) (suc index) line is = none_removed lines index line is

none_added : (lines : List (Bor (List ℕ))) (index : ℕ) (line : Bor (List ℕ))
    → slice_get (map Context lines) index ≡ Some (Added line) → ⊥
none_added [] index line is = cc
none_added (l ∷ lines) zero line is = cc
none_added (l ∷ lines) (suc index) line is = none_added lines index line is

-- if only lines of both texts follow `lines`, a removed line has fewer lines of the old side before it than `lines` have
removed_early : (lines : List Line) (end : List (Bor (List ℕ))) (index : ℕ) (line : Bor (List ℕ))
    → slice_get (lines ++ map Context end) index ≡ Some (Removed line)
    → length (old_side (take index (lines ++ map Context end))) < length (old_side lines)
removed_early [] end index line is = absurd (none_removed end index line is)
removed_early (Context l ∷ lines) end zero line is = cc
removed_early (Removed l ∷ lines) end zero line is = omega arith
removed_early (Added l ∷ lines) end zero line is = cc
removed_early (Context l ∷ lines) end (suc index) line is = omega (arith, removed_early lines end index line is)
removed_early (Removed l ∷ lines) end (suc index) line is = omega (arith, removed_early lines end index line is)
removed_early (Added l ∷ lines) end (suc index) line is = removed_early lines end index line is

added_early : (lines : List Line) (end : List (Bor (List ℕ))) (index : ℕ) (line : Bor (List ℕ))
    → slice_get (lines ++ map Context end) index ≡ Some (Added line)
    → length (new_side (take index (lines ++ map Context end))) < length (new_side lines)
added_early [] end index line is = absurd (none_added end index line is)
added_early (Context l ∷ lines) end zero line is = cc
added_early (Added l ∷ lines) end zero line is = omega arith
added_early (Removed l ∷ lines) end zero line is = cc
added_early (Context l ∷ lines) end (suc index) line is = omega (arith, added_early lines end index line is)
added_early (Added l ∷ lines) end (suc index) line is = omega (arith, added_early lines end index line is)
added_early (Removed l ∷ lines) end (suc index) line is = added_early lines end index line is

-- a removed line is after the common start and before the common end of the old side
removed_between : (start : List (Bor (List ℕ))) (lines : List Line) (end : List (Bor (List ℕ))) (index : ℕ) (line : Bor (List ℕ))
    → slice_get (map Context start ++ (lines ++ map Context end)) index ≡ Some (Removed line)
    → (length start ≤ length (old_side (take index (map Context start ++ (lines ++ map Context end)))))
    × (length (old_side (take index (map Context start ++ (lines ++ map Context end)))) < length start + length (old_side lines))
removed_between [] lines end index line is = (omega arith, omega (arith, removed_early lines end index line is))
removed_between (l ∷ start) lines end zero line is = cc
removed_between (l ∷ start) lines end (suc index) line is =
    let rest = removed_between start lines end index line is in
    (omega (arith, rest.0), omega (arith, rest.1))

added_between : (start : List (Bor (List ℕ))) (lines : List Line) (end : List (Bor (List ℕ))) (index : ℕ) (line : Bor (List ℕ))
    → slice_get (map Context start ++ (lines ++ map Context end)) index ≡ Some (Added line)
    → (length start ≤ length (new_side (take index (map Context start ++ (lines ++ map Context end)))))
    × (length (new_side (take index (map Context start ++ (lines ++ map Context end)))) < length start + length (new_side lines))
added_between [] lines end index line is = (omega arith, omega (arith, added_early lines end index line is))
added_between (l ∷ start) lines end zero line is = cc
added_between (l ∷ start) lines end (suc index) line is =
    let rest = added_between start lines end index line is in
    (omega (arith, rest.0), omega (arith, rest.1))

-- each changed line of the merged lines, as one hunk, is between the common ends
pub merged_between : (old new : List (List ℕ)) (start removed added end : List (Bor (List ℕ))) (lines whole : List Line)
    → HaveCommonEnds old new (line_texts start) (line_texts removed) (line_texts added) (line_texts end)
    → old_side lines ≡ line_texts removed → new_side lines ≡ line_texts added → whole ≡ map Context start ++ (lines ++ map Context end)
    → AreBetweenEnds old new ((record { old = 1; new = 1; lines = whole }) ∷ [])
merged_between old new start removed added end lines whole ends olds news is =
    subst (λ ls. AreBetweenEnds old new ((record { old = 1; new = 1; lines = ls }) ∷ [])) (sym is)
    (record {
      start = line_texts start;
      removed = line_texts removed;
      added = line_texts added;
      end = line_texts end;
      ends = ends;
      between = (
        record {
          old = λ index line at.
              let found = removed_between start lines end index line at in (
                omega (arith, found.0, length-map start (λ l. l.now)),
                omega (arith, found.1, length-map start (λ l. l.now), ap length olds),
              );
          new = λ index line at.
              let found = added_between start lines end index line at in (
                omega (arith, found.0, length-map start (λ l. l.now)),
                omega (arith, found.1, length-map start (λ l. l.now), ap length news),
              );
        },
        tt,
      );
    })

-- for two equal lists of lines, the empty list of hunks is between their ends
pub same_between : (lines : List (List ℕ)) → AreBetweenEnds lines lines []
same_between lines = record {
  start = lines;
  removed = [];
  added = [];
  end = [];
  ends = record {
    old_is = sym (append-nil lines);
    new_is = sym (append-nil lines);
    start_is_longest = λ line rest rest' is is'. cc;
    end_is_longest = λ line before before' is is'. no_last before line is;
  };
  between = tt;
}
