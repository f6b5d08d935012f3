-- How names are put in one order, name by name.
use Rattle.std.proofs.Common.{◌≡◌, ◌∙◌, ◌<◌, ◌+◌, ℕ, suc, arith, not, take, Bool, true, false, ◌&&◌, List, [], ◌∷◌, ◌++◌, append-nil, append_assoc, cond, drop, get_or, length, map, refl, sym, ap}
use lib.Pointwise.{pointwise}
use Rattle.std.specs.Prelude.{bytes_eq}
use Rattle.std.specs.Borrow.{Bor}
use Rattle.std.specs.List.{before_first, prefix_len}
use Rattle.std.proofs.lemmas.List.{map-append}
use Rattle.bib_text.proofs.ListFacts.{drop_is}
use Rattle.edit_merge.specs.Picked.{are_equal_names}

-- texts after one more was pushed
pushed : (old : List (Bor (List ℕ))) (text : Bor (List ℕ)) (name : List ℕ) (rest : List (List ℕ)) → text.now ≡ name
    → map (λ n. n.now) (old ++ text ∷ []) ++ rest ≡ map (λ n. n.now) old ++ name ∷ rest
pushed old text name rest is =
    ap (λ ns. ns ++ rest) (map-append (λ (n : Bor (List ℕ)). n.now) old (text ∷ []))
    ∙ append_assoc (map (λ n. n.now) old) (text.now ∷ []) rest
    ∙ ap (λ n. map (λ n. n.now) old ++ n ∷ rest) is

-- a run that begins with a name that fails the test
pub run_more : (test : List ℕ → Bool) (name : List ℕ) (left : List (List ℕ)) → test name ≡ false
    → before_first test (name ∷ left) ≡ name ∷ before_first test left
run_more test name left fails =
    let size : ℕ = prefix_len (λ n. not (test n)) left in
    ap (λ b. take (cond (not b) (1 + size) 0) (name ∷ left)) fails
    ∙ ap (λ n. take n (name ∷ left)) (let same : 1 + size ≡ suc size = omega arith in same)

-- a run ends before a name that passes the test
pub run_stops : (test : List ℕ → Bool) (name : List ℕ) (left : List (List ℕ)) → test name ≡ true → before_first test (name ∷ left) ≡ []
run_stops test name left passes =
    ap (λ b. take (cond (not b) (1 + prefix_len (λ n. not (test n)) left) 0) (name ∷ left)) passes

-- a run goes on with a name that fails the test
pub run_goes_on : (test : List ℕ → Bool) (left all : List (List ℕ)) (index : ℕ) (name : List ℕ) (old new : List (Bor (List ℕ)))
    (text : Bor (List ℕ)) → index < length left → name ≡ get_or left index name → test name ≡ false → new ≡ old ++ text ∷ []
    → text.now ≡ name → map (λ n. n.now) old ++ before_first test (drop index left) ≡ all
    → map (λ n. n.now) new ++ before_first test (drop (index + 1) left) ≡ all
run_goes_on test left all index name old new text within is fails pushes same so_far =
    ap (λ ns. map (λ n. n.now) ns ++ before_first test (drop (index + 1) left)) pushes
    ∙ pushed old text name (before_first test (drop (index + 1) left)) same
    ∙ ap (λ ns. map (λ n. n.now) old ++ ns)
    (sym (ap (before_first test) (drop_is left index name within is) ∙ run_more test name (drop (index + 1) left) fails))
    ∙ so_far

-- a run that ends at a name that passes the test
pub run_ends : (test : List ℕ → Bool) (left all : List (List ℕ)) (index : ℕ) (name : List ℕ) (old : List (Bor (List ℕ)))
    → index < length left → name ≡ get_or left index name → test name ≡ true
    → map (λ n. n.now) old ++ before_first test (drop index left) ≡ all → map (λ n. n.now) old ≡ all
run_ends test left all index name old within is passes so_far =
    sym (append-nil (map (λ n. n.now) old))
    ∙ ap (λ ns. map (λ n. n.now) old ++ ns)
    (sym (ap (before_first test) (drop_is left index name within is) ∙ run_stops test name (drop (index + 1) left) passes))
    ∙ so_far

-- two lists of names are equal by the test of std exactly if they are equal by the definition
pub names_equal : (first second : List (Bor (List ℕ)))
    → pointwise (λ a b. bytes_eq a.now b.now) first second ≡ are_equal_names (map (λ n. n.now) first) (map (λ n. n.now) second)
names_equal [] [] = refl
names_equal [] (n ∷ ns) = refl
names_equal (n ∷ ns) [] = refl
names_equal (n ∷ ns) (m ∷ ms) = ap (λ b. bytes_eq n.now m.now && b) (names_equal ns ms)
