-- Facts about the old and the new side of compared lines.
use Rattle.std.proofs.Common.{◌≡◌, ℕ, ◌+◌, ◌-◌, ◌<◌, ◌≤◌, List, [], ◌∷◌, ◌++◌, length, map, take, drop, get_or, refl, ap, sym, ◌∙◌, length-append, take-add, arith}
use Rattle.std.specs.Borrow.{Bor}
use Rattle.std.proofs.lemmas.List.{map-append, take_more}
use Rattle.bib_source.specs.Comparison.{new_side, old_side}
use Rattle.bib_source.specs.declared.comparison.Line.{Line}
use Rattle.bib_source.specs.declared.comparison.Line.TheVariants.{Context, Removed, Added}

pub old_append : (xs ys : List Line) → old_side (xs ++ ys) ≡ old_side xs ++ old_side ys
old_append [] ys = refl
old_append (Context l ∷ xs) ys = ap (λ ls. l.now ∷ ls) (old_append xs ys)
old_append (Removed l ∷ xs) ys = ap (λ ls. l.now ∷ ls) (old_append xs ys)
old_append (Added l ∷ xs) ys = old_append xs ys

pub new_append : (xs ys : List Line) → new_side (xs ++ ys) ≡ new_side xs ++ new_side ys
new_append [] ys = refl
new_append (Context l ∷ xs) ys = ap (λ ls. l.now ∷ ls) (new_append xs ys)
new_append (Removed l ∷ xs) ys = new_append xs ys
new_append (Added l ∷ xs) ys = ap (λ ls. l.now ∷ ls) (new_append xs ys)

-- an empty line, the default for an index past the end
abbrev pub no_line : Bor (List ℕ)
no_line = record { ref_ptr = (0, 0); now = [] }

-- the first `i + 1` lines are the first `i` lines and the line at `i`
pub texts_more : (lines : List (Bor (List ℕ))) (i : ℕ) → i < length lines
    → map (λ l. l.now) (take (i + 1) lines) ≡ map (λ l. l.now) (take i lines) ++ (get_or lines i no_line).now ∷ []
texts_more lines i within =
    ap (map (λ l. l.now)) (take_more lines i no_line within)
    ∙ map-append (λ l. l.now) (take i lines) (get_or lines i no_line ∷ [])

-- the first `i + 1` lines have as many lines of the old text as the first `i` lines and the line at `i`
pub old_more : (lines : List Line) (i : ℕ) → i < length lines
    → length (old_side (take (i + 1) lines))
    ≡ length (old_side (take i lines)) + length (old_side (get_or lines i (Context no_line) ∷ []))
old_more lines i within =
    let d = Context no_line in
    ap (λ ls. length (old_side ls)) (take_more lines i d within)
    ∙ ap length (old_append (take i lines) (get_or lines i d ∷ []))
    ∙ length-append (old_side (take i lines)) (old_side (get_or lines i d ∷ []))

-- the first `i + 1` lines have as many lines of the new text as the first `i` lines and the line at `i`
pub new_more : (lines : List Line) (i : ℕ) → i < length lines
    → length (new_side (take (i + 1) lines))
    ≡ length (new_side (take i lines)) + length (new_side (get_or lines i (Context no_line) ∷ []))
new_more lines i within =
    let d = Context no_line in
    ap (λ ls. length (new_side ls)) (take_more lines i d within)
    ∙ ap length (new_append (take i lines) (get_or lines i d ∷ []))
    ∙ length-append (new_side (take i lines)) (new_side (get_or lines i d ∷ []))

-- the first `i` lines and the lines from `i` to `j` are the first `j` lines
pub texts_up_to : (lines : List (Bor (List ℕ))) (i j : ℕ) → i ≤ j
    → map (λ l. l.now) (take i lines) ++ map (λ l. l.now) (take (j - i) (drop i lines))
    ≡ map (λ l. l.now) (take j lines)
texts_up_to lines i j low =
    let sum : i + (j - i) ≡ j = omega arith in
    sym (map-append (λ l. l.now) (take i lines) (take (j - i) (drop i lines)))
    ∙ ap (map (λ l. l.now)) (sym (take-add i (j - i) lines) ∙ ap (λ n. take n lines) sum)
