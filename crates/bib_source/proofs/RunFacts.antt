-- Lists of runs: joined, cut and continued.
use Rattle.std.proofs.Common.{◌≡◌, ℕ, true, List, [], ◌∷◌, ◌++◌, ◌⊎◌, inl, inr, map, refl, ap, sym, ◌∙◌, subst, append_assoc}
use Rattle.std.specs.Borrow.{Bor}
use Rattle.std.specs.List.{AllByRecursion}
use Rattle.std.proofs.lemmas.Bool.{false≢true}
use Rattle.std.proofs.lemmas.List.{append-nil}
use Rattle.bib_text.proofs.ListFacts.{all_append}
use Rattle.bib_source.specs.Comparison.{AreRuns, HaveCommonEnds, IsRun, is_changed, line_texts}
use Rattle.bib_source.specs.Comparison.{AreRuns as runs}
use Rattle.bib_source.specs.Merging.{IsOpen}
use Rattle.bib_source.specs.declared.comparison.Line.{Line}
use Rattle.bib_source.specs.declared.comparison.Line.TheVariants.{Context, Removed, Added}
use Rattle.bib_source.proofs.EndFacts.{no_last}

-- the empty list of lines is a run
no_run : IsRun []
no_run = record {
  removed = [];
  added = [];
  is = refl;
  first = λ line rest rest' is is'. cc;
  last = λ line before before' is is'. no_last before line is;
}

-- runs, a line of both texts and runs are together runs
pub join : {xs ys : List Line} (line : Bor (List ℕ)) → AreRuns xs → AreRuns ys → AreRuns (xs ++ Context line ∷ ys)
join line (runs.one run) more = runs.next line run more
join {ys = ys} line (runs.next {run = xs} {lines = rest} first run all) more =
    subst AreRuns (sym (append_assoc xs (Context first ∷ rest) (Context line ∷ ys))) (runs.next first run (join line all more))

-- lines of both texts and runs are together runs
context_runs : (lines : List (Bor (List ℕ))) {more : List Line} → AreRuns more → AreRuns (map Context lines ++ more)
context_runs [] all = all
context_runs (line ∷ lines) all = runs.next line no_run (context_runs lines all)

-- runs and lines of both texts are together runs
pub runs_context : (xs : List Line) (lines : List (Bor (List ℕ))) → AreRuns xs → AreRuns (xs ++ map Context lines)
runs_context xs [] all = subst AreRuns (sym (append-nil xs)) all
runs_context xs (line ∷ lines) all =
    join line all (subst AreRuns (append-nil (map Context lines)) (context_runs lines (runs.one no_run)))

-- if any runs may follow some lines, any runs may also follow these and then lines of both texts
pub open_context : (xs : List Line) (lines : List (Bor (List ℕ))) → IsOpen xs → IsOpen (xs ++ map Context lines)
open_context xs lines is more all =
    subst AreRuns (sym (append_assoc xs (map Context lines) more)) (is (map Context lines ++ more) (context_runs lines all))

-- any runs may follow runs and a line of both texts
pub open_after : (xs : List Line) (line : Bor (List ℕ)) → AreRuns xs → IsOpen (xs ++ Context line ∷ [])
open_after xs line all more follow = subst AreRuns (sym (append_assoc xs (Context line ∷ []) more)) (join line all follow)

-- the lines between the common start and the common end of two lists of lines are a run
run_of_ends : (old new start end : List (List ℕ)) (removed added : List (Bor (List ℕ)))
    → HaveCommonEnds old new start (line_texts removed) (line_texts added) end → IsRun (map Removed removed ++ map Added added)
run_of_ends old new start end removed added ends = record {
  removed = removed;
  added = added;
  is = refl;
  first = λ line rest rest' is is'.
      ends.start_is_longest line (rest ++ end) (rest' ++ end) (ap (λ ls. ls ++ end) is) (ap (λ ls. ls ++ end) is');
  last = ends.end_is_longest;
}

-- lines that any runs may follow, lines of both texts, a run and lines of both texts are together runs
pub runs_of_ends : (xs : List Line) (old new : List (List ℕ)) (start removed added end : List (Bor (List ℕ))) → IsOpen xs
    → HaveCommonEnds old new (line_texts start) (line_texts removed) (line_texts added) (line_texts end)
    → AreRuns ((((xs ++ map Context start) ++ map Removed removed) ++ map Added added) ++ map Context end)
runs_of_ends xs old new start removed added end is ends =
    let before = xs ++ map Context start in
    runs_context ((before ++ map Removed removed) ++ map Added added) end
    (subst AreRuns (sym (append_assoc before (map Removed removed) (map Added added)))
    (open_context xs start is (map Removed removed ++ map Added added)
    (runs.one (run_of_ends old new (line_texts start) (line_texts end) removed added ends))))

-- each line of a run has changed
abbrev AreChanged : List Line → Type 0
AreChanged lines = AllByRecursion (λ line. is_changed line ≡ true) lines

run_changed : (lines : List Line) → IsRun lines → AreChanged lines
run_changed lines run =
    subst AreChanged (sym run.is)
    (all_append (λ line. is_changed line ≡ true) (map Removed run.removed) (map Added run.added) (removed run.removed) (added run.added))
  where
    removed : (ls : List (Bor (List ℕ))) → AreChanged (map Removed ls)
    removed [] = tt
    removed (l ∷ ls) = (refl, removed ls)

    added : (ls : List (Bor (List ℕ))) → AreChanged (map Added ls)
    added [] = tt
    added (l ∷ ls) = (refl, added ls)

-- a run of changed lines contains no line of both texts
changed_not : (run before after : List Line) (line : Bor (List ℕ)) → AreChanged run → run ≡ before ++ Context line ∷ after → ⊥
changed_not [] [] after line all is = cc
changed_not [] (x ∷ before) after line all is = cc
changed_not (r ∷ run) [] after line all is =
    let same : r ≡ Context line = cc in
    false≢true (subst (λ x. is_changed x ≡ true) same all.0)
changed_not (r ∷ run) (x ∷ before) after line all is =
    let same : run ≡ before ++ Context line ∷ after = cc in
    changed_not run before after line all.1 same

-- `line`, a line of both texts, is somewhere after `first`, the line of both texts right after a run
record IsLater (run rest before after : List Line) (first line : Bor (List ℕ)) : Type 0 where
  between : List Line
  before_is : before ≡ run ++ Context first ∷ between
  rest_is : rest ≡ between ++ Context line ∷ after

first_or_later : (run rest before after : List Line) (first line : Bor (List ℕ)) → AreChanged run
    → run ++ Context first ∷ rest ≡ before ++ Context line ∷ after
    → ((before ≡ run) × (rest ≡ after)) ⊎ IsLater run rest before after first line
first_or_later [] rest [] after first line all is =
    let same : rest ≡ after = cc in
    inl (refl, same)
first_or_later [] rest (x ∷ before) after first line all is =
    let head : x ≡ Context first = cc in
    let tail : rest ≡ before ++ Context line ∷ after = cc in
    inr (record { between = before; before_is = ap (λ y. y ∷ before) head; rest_is = tail })
first_or_later (r ∷ run) rest [] after first line all is =
    let same : r ≡ Context line = cc in
    absurd (false≢true (subst (λ x. is_changed x ≡ true) same all.0))
first_or_later (r ∷ run) rest (x ∷ before) after first line all is =
    let head : x ≡ r = cc in
    let tail : run ++ Context first ∷ rest ≡ before ++ Context line ∷ after = cc in
    elim (first_or_later run rest before after first line all.1 tail) [
      | inl here ↦ inl (ap (λ y. y ∷ before) head ∙ ap (λ ls. r ∷ ls) here.0, here.1)
      | inr later ↦
          inr (record {
            between = later.between;
            before_is = ap (λ y. y ∷ before) head ∙ ap (λ ls. r ∷ ls) later.before_is;
            rest_is = later.rest_is;
          })
    ]

-- lists of runs are cut at a line of both texts
pub cut_at : {all : List Line} (before after : List Line) (line : Bor (List ℕ)) → AreRuns all → all ≡ before ++ Context line ∷ after
    → AreRuns before × AreRuns after
cut_at before after line (runs.one {run = run} is_run) is = absurd (changed_not run before after line (run_changed run is_run) is)
cut_at before after line (runs.next {run = run} {lines = rest} first is_run all) is =
    elim (first_or_later run rest before after first line (run_changed run is_run) is) [
      | inl here ↦ (runs.one (subst IsRun (sym here.0) is_run), subst AreRuns here.1 all)
      | inr later ↦
          let parts = cut_at later.between after line all later.rest_is in
          (subst AreRuns (sym later.before_is) (runs.next first is_run parts.0), parts.1)
    ]

-- any runs may follow lines of both texts, with nothing before them
pub open_start : (nothing lines : List Line) (start : List (Bor (List ℕ))) → nothing ≡ []
    → lines ≡ nothing ++ map Context start → IsOpen lines
open_start nothing lines start none is =
    subst IsOpen (sym (is ∙ ap (λ ls. ls ++ map Context start) none)) (λ more all. context_runs start all)
