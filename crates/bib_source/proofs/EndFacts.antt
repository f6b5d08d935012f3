-- How far two lists of lines agree at their starts and at their ends.
use Rattle.std.proofs.Common.{◌≡◌, ℕ, ◌+◌, ◌-◌, ◌<◌, Bool, true, false, not, List, [], ◌∷◌, ◌++◌, length, take, drop, get_or, refl, ap, ap₂, sym, ◌∙◌, arith, length-drop}
use Rattle.std.specs.Borrow.{Bor}
use lib.Dec.{eqb}
use lib.Pointwise.{pointwise}
use Rattle.std.proofs.lemmas.Bool.{false≢true, not-false}
use Rattle.std.proofs.lemmas.Slice.Eq.{bytes_eq-Decides}
use Rattle.std.proofs.lemmas.List.{drop_more, map-append, take-append-drop}
use Rattle.bib_source.specs.Comparison.{BeginDifferently, EndDifferently, HaveCommonEnds, line_texts}
use Rattle.bib_source.proofs.ComparisonFacts.{no_line, texts_more}

-- two lists whose lines at an index differ begin differently from this index on
pub begin_differently : (old new : List (Bor (List ℕ))) (i : ℕ) → i < length old → i < length new
    → ((get_or old i no_line).now ≡ (get_or new i no_line).now → ⊥)
    → BeginDifferently (line_texts (drop i old)) (line_texts (drop i new))
begin_differently old new i in_old in_new differ = λ line rest rest' is is'.
    let first : (get_or old i no_line).now ∷ line_texts (drop (i + 1) old) ≡ line ∷ rest =
    sym (ap line_texts (drop_more old i no_line in_old)) ∙ is in
    let first' : (get_or new i no_line).now ∷ line_texts (drop (i + 1) new) ≡ line ∷ rest' =
    sym (ap line_texts (drop_more new i no_line in_new)) ∙ is' in
    let same : (get_or old i no_line).now ≡ line = cc in
    let same' : (get_or new i no_line).now ≡ line = cc in
    differ (same ∙ sym same')

-- an empty list has no last element
pub no_last : {A : Type 0} (before : List A) (x : A) → [] ≡ before ++ x ∷ [] → ⊥
no_last [] x is = cc
no_last (y ∷ before) x is = cc

-- equal lists have the same last element
pub last_same : {A : Type 0} (xs ys : List A) (x y : A) → xs ++ x ∷ [] ≡ ys ++ y ∷ [] → x ≡ y
last_same [] [] x y is = cc
last_same [] (z ∷ []) x y is = cc
last_same [] (z ∷ w ∷ ys) x y is = cc
last_same (z ∷ []) [] x y is = cc
last_same (z ∷ w ∷ xs) [] x y is = cc
last_same (z ∷ xs) (w ∷ ys) x y is =
    let rest : xs ++ x ∷ [] ≡ ys ++ y ∷ [] = cc in
    last_same xs ys x y rest

-- two lists whose last lines differ end differently
pub end_differently : (old new : List (Bor (List ℕ))) (i j : ℕ) → i < length old → j < length new
    → ((get_or old i no_line).now ≡ (get_or new j no_line).now → ⊥)
    → EndDifferently (line_texts (take (i + 1) old)) (line_texts (take (j + 1) new))
end_differently old new i j in_old in_new differ = λ line before before' is is'.
    differ
    (last_same (line_texts (take i old)) before (get_or old i no_line).now line (sym (texts_more old i in_old) ∙ is)
    ∙ sym (last_same (line_texts (take j new)) before' (get_or new j no_line).now line (sym (texts_more new j in_new) ∙ is')))

-- the lines from an index on are the line there and the lines after it
pub texts_from : (lines : List (Bor (List ℕ))) (i : ℕ) → i < length lines
    → line_texts (drop i lines) ≡ (get_or lines i no_line).now ∷ line_texts (drop (i + 1) lines)
texts_from lines i within = ap line_texts (drop_more lines i no_line within)

-- the lines are those before an index and those from it on
pub texts_cut : (lines : List (Bor (List ℕ))) (i : ℕ) → line_texts lines ≡ line_texts (take i lines) ++ line_texts (drop i lines)
texts_cut lines i = sym (ap line_texts (take-append-drop i lines)) ∙ map-append (λ l. l.now) (take i lines) (drop i lines)

-- two lists that agree in exactly the first `start` lines, and then in exactly the lines from `i` and `j` on, have these ends
pub ends_of : (old new old_rest new_rest end : List (Bor (List ℕ))) (start i j : ℕ) → old_rest ≡ drop start old → new_rest ≡ drop start new
    → end ≡ drop i old_rest → line_texts (take start old) ≡ line_texts (take start new)
    → BeginDifferently (line_texts (drop start old)) (line_texts (drop start new))
    → line_texts (drop i old_rest) ≡ line_texts (drop j new_rest)
    → EndDifferently (line_texts (take i old_rest)) (line_texts (take j new_rest))
    → HaveCommonEnds (line_texts old) (line_texts new) (line_texts (take start old)) (line_texts (take i old_rest))
    (line_texts (take j new_rest)) (line_texts end)
ends_of old new old_rest new_rest end start i j old_is new_is end_is same first same' last =
    let olds : line_texts (drop start old) ≡ line_texts (take i old_rest) ++ line_texts end =
    ap line_texts (sym old_is) ∙ texts_cut old_rest i ∙ ap (λ ls. line_texts (take i old_rest) ++ line_texts ls) (sym end_is) in
    let news : line_texts (drop start new) ≡ line_texts (take j new_rest) ++ line_texts end =
    ap line_texts (sym new_is) ∙ texts_cut new_rest j
    ∙ ap (λ ls. line_texts (take j new_rest) ++ ls) (sym same' ∙ ap line_texts (sym end_is)) in
    record {
      old_is = texts_cut old start ∙ ap (λ ls. line_texts (take start old) ++ ls) olds;
      new_is = texts_cut new start ∙ ap₂ (λ ls ms. ls ++ ms) (sym same) news;
      start_is_longest = λ line rest rest' is is'. first line rest rest' (olds ∙ is) (news ∙ is');
      end_is_longest = last;
    }

-- two lines are equal if `!=` returns false, and differ if it returns true
pub lines_same : (old new : List ℕ) (differ : Bool) → differ ≡ not (pointwise eqb old new) → differ ≡ false → old ≡ new
lines_same old new differ is same = (bytes_eq-Decides old new).0 (not-false (pointwise eqb old new) (sym is ∙ same))

pub lines_differ : (old new : List ℕ) (differ : Bool) → differ ≡ not (pointwise eqb old new) → differ ≡ true → old ≡ new → ⊥
lines_differ old new differ is other same = false≢true (sym (ap not ((bytes_eq-Decides old new).1 same)) ∙ sym is ∙ other)
