-- The spans of skipped blocks in a text, and the output for them.
use Rattle.std.proofs.Common.{◌≡◌, ◌<◌, ◌+◌, ◌||◌, ⊎_elim, ℕ, zero, suc, Bool, true, false, cond, List, [], ◌∷◌, ◌++◌, take, length, get_or, ap, subst, ◌∙◌, arith, append-nil}
use Rattle.std.specs.List.{AllByRecursion, flat_map, list_any}
use Rattle.std.specs.Str.{IsCharBoundary}
use Rattle.std.proofs.lemmas.List.{take_more}
use Rattle.std.proofs.lemmas.List.Concat.{flat_map-append}
use Rattle.bib_text.specs.Places.{Place}
use Rattle.bib_text.proofs.BoundaryFacts.{char_boundary}
use Rattle.bib_text.proofs.PlaceFacts.{ahead_char, ahead_then}
use Rattle.bib_syntax.specs.Recovery.{GoesOnAt, Recovered}
use Rattle.bib_syntax.specs.Recovery.{Recovered as recovered}
use Rattle.bib_syntax.specs.Reading.{FileReading}
use Rattle.bib_syntax.specs.declared.raw.recovery.SkippedBlock.{SkippedBlock}
use Rattle.bib_syntax.proofs.FileFacts.{ahead_block, ahead_line_comment}
use Rattle.bib_syntax.proofs.KeptFacts.{ahead_passed}
use Rattle.std.proofs.Math.Bool.{or-true}
use Rattle.bib_queries.specs.Standing.{IsSkippedIn}
use Rattle.bib_queries.proofs.MarkFacts.{any_push}

-- a text may be cut at each place where recovery continues
cut_on : {u w : Place} (text : List ℕ) → w.text ≡ text → GoesOnAt u w → IsCharBoundary text w.at
cut_on {u} {w} text same on =
    subst (λ t. IsCharBoundary t w.at) same
    (⊎_elim (λ end. (omega (arith, end), λ below _. omega (arith, end, below))) (λ line. char_boundary line.1) on.stands)

-- the skipped blocks that are recovered from a text can be cut out of it
pub skipped_stand : {u : Place} {says : FileReading} {errors : List SkippedBlock} (text : List ℕ) → u.text ≡ text
    → Recovered false u says errors → AllByRecursion (IsSkippedIn text) errors
skipped_stand text same (recovered.end end) = _
skipped_stand text same (recovered.skipped char passes x) = skipped_stand text (char.same ∙ same) x
skipped_stand text same (recovered.line_comment m x) = skipped_stand text ((ahead_line_comment m).text ∙ same) x
skipped_stand text same (recovered.block b x) = skipped_stand text ((ahead_block b).text ∙ same) x
skipped_stand {u} text same (recovered.unread {w = w} sign none on held x) =
    let there : w.text ≡ text = (ahead_passed on.passed).text ∙ (sign.same ∙ same) in (
      record {
        ordered = (ahead_then (ahead_char sign) (ahead_passed on.passed)).at;
        start = subst (λ t. IsCharBoundary t u.at) same (char_boundary sign);
        end = cut_on text there on;
      },
      skipped_stand text there x,
    )

-- the output for the first elements and the next one is that for the first elements, followed by that for the next one
pub lines_more : {X : Type 0} (f : X → List ℕ) (xs : List X) (i : ℕ) (x : X) → i < length xs → get_or xs i x ≡ x
    → flat_map f (take (i + 1) xs) ≡ flat_map f (take i xs) ++ f x
lines_more f xs i x within is =
    ap (flat_map f) (take_more xs i x within ∙ ap (λ y. take i xs ++ y ∷ []) is)
    ∙ flat_map-append f (take i xs) (x ∷ []) ∙ ap (λ l. flat_map f (take i xs) ++ l) (append-nil (f x))

-- a fact that holds for each element holds for one
pub each_at : {X : Type 0} (P : X → Type 0) (xs : List X) (i : ℕ) (x : X) → i < length xs → get_or xs i x ≡ x
    → AllByRecursion P xs → P x
each_at P [] i x within is all = absurd (omega (arith, within))
each_at P (y ∷ xs) zero x within is all = subst P is all.0
each_at P (y ∷ xs) (suc i) x within is all = each_at P xs i x (omega (arith, within)) is all.1

-- if an element of a list passes a test, the list has one that passes
pub any_here : {X : Type 0} (test : X → Bool) (xs : List X) (i : ℕ) (x : X) → i < length xs → get_or xs i x ≡ x
    → test x ≡ true → list_any test xs ≡ true
any_here test [] i x within is passes = absurd (omega (arith, within))
any_here test (y ∷ xs) zero x within is passes = ap (λ b. b || list_any test xs) (ap test is ∙ passes)
any_here test (y ∷ xs) (suc i) x within is passes =
    ap (λ b. test y || b) (any_here test xs i x (omega (arith, within)) is passes) ∙ or-true (test y)

-- if no element so far passes and the next one fails, none of them passes
pub none_more : {X : Type 0} (test : X → Bool) (xs : List X) (i : ℕ) (x : X) → i < length xs → get_or xs i x ≡ x
    → test x ≡ false → list_any test (take i xs) ≡ false → list_any test (take (i + 1) xs) ≡ false
none_more test xs i x within is fails none =
    ap (list_any test) (take_more xs i x within ∙ ap (λ y. take i xs ++ y ∷ []) is) ∙ any_push test (take i xs) x
    ∙ ap (λ b. cond b true (list_any test (take i xs))) fails ∙ none
