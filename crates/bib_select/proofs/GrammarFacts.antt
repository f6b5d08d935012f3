-- The results of parsing terms are those of the grammar.
use Rattle.std.proofs.Common.{◌≡◌, ℕ, Bool, true, false, List, [], ◌∷◌, refl, ap, subst, ◌∙◌, Option, Some, None}
use Rattle.std.specs.Prelude.{codes, Result, Ok, Err, if◌then◌else◌, ◌↔◌}
use Rattle.std.specs.Option.{ok_or}
use Rattle.std.proofs.lemmas.Bool.{cond-true, cond-false}
use Rattle.bib_select.specs.Conditions.{TermReading, TestReading, answer_test, has_test, missing_operator, missing_text, operator_test, subject_test, term_reading, term_with, test_reading}
use Rattle.bib_select.specs.Conditions.TestReading.{has}
use Rattle.bib_select.specs.Grammar.{IsTerm, IsTest}
use Rattle.bib_select.specs.Grammar.IsTest.{field_test, comparison}
use Rattle.bib_select.specs.Grammar.IsTerm.{plain_test, negated_test}
use Rattle.bib_select.specs.Segments.{Segment, and_then, failure_at, if_ended, is_keyword}
use Rattle.bib_select.specs.Tokens.{Placed}
use Rattle.bib_select.specs.declared.errors.SelectionError.{SelectionError}
use Rattle.bib_select.specs.declared.errors.SelectionErrorKind.TheVariants.{MissingTest, MissingField}

-- these tokens, up to a byte offset
abbrev pub up_to : ℕ → List Placed → Segment
up_to end tokens = record { tokens = tokens; end = end }

-- ---- a test or a term of the grammar is parsed as itself

test_of_grammar : (end : ℕ) {tokens : List Placed} {test : TestReading} → IsTest tokens test → test_reading (up_to end tokens) ≡ Ok test
test_of_grammar end (field_test {first = first} {name = name} is text) =
    cond-true (is_keyword (codes "has") first.token) _ _ is
    ∙ ap (λ o. and_then (ok_or o (failure_at MissingField (up_to end (name ∷ [])))) (λ n. if_ended (has n) (up_to end []))) text
test_of_grammar end
    (comparison {first = first} {operator = operator} {text = text} {subject = subject} {question = question} is about asks gives) =
    cond-false (is_keyword (codes "has") first.token) _ _ is
    ∙ ap
    (λ o. and_then (ok_or o (failure_at MissingTest (up_to end (first ∷ operator ∷ text ∷ []))))
    (λ s. operator_test s (up_to end (operator ∷ text ∷ []))))
    about
    ∙ ap
    (λ o. and_then (ok_or o (failure_at (missing_operator subject) (up_to end (operator ∷ text ∷ []))))
    (λ q. answer_test q (up_to end (text ∷ []))))
    asks
    ∙ ap
    (λ o. and_then (ok_or o (failure_at (missing_text question) (up_to end (text ∷ [])))) (λ t. if_ended t (up_to end [])))
    gives

term_of_grammar : (end : ℕ) {tokens : List Placed} {term : TermReading} → IsTerm tokens term → term_reading (up_to end tokens) ≡ Ok term
term_of_grammar end (plain_test {first = first} is grammar) =
    cond-false (is_keyword (codes "not") first.token) _ _ is ∙ ap (term_with false) (test_of_grammar end grammar)
term_of_grammar end (negated_test {first = first} is grammar) =
    cond-true (is_keyword (codes "not") first.token) _ _ is ∙ ap (term_with true) (test_of_grammar end grammar)

-- ---- a test or a term that is parsed is one of the grammar

err_is_no_ok : {A E : Type 0} {a : A} {e : E} → Err e ≡ Ok a → ⊥
err_is_no_ok is = cc

pub ok_same : {A E : Type 0} {a b : A} (r : Result A E) → r ≡ Ok a → r ≡ Ok b → a ≡ b
ok_same r is other = cc

-- if two steps in turn succeed, the first succeeds, and so does the second with its value
pub steps : {A B : Type 0} (r : Result A SelectionError) (next : A → Result B SelectionError) (b : B) → and_then r next ≡ Ok b
    → (a : A) × (r ≡ Ok a) × (next a ≡ Ok b)
steps (Ok a) next b is = (a, refl, is)
steps (Err e) next b is = absurd (err_is_no_ok is)

some_of : {A : Type 0} (o : Option A) (e : SelectionError) (a : A) → ok_or o e ≡ Ok a → o ≡ Some a
some_of None e a is = absurd (err_is_no_ok is)
some_of (Some b) e a is = ap (λ x. Some x) (ok_same (Ok b) refl is)

has_read : (end : ℕ) (first : Placed) (rest : List Placed) (test : TestReading) → is_keyword (codes "has") first.token ≡ true
    → has_test (up_to end rest) ≡ Ok test → IsTest (first ∷ rest) test
has_read end first [] test is read = absurd (err_is_no_ok read)
has_read end first (name ∷ []) test is read =
    let (text, named, ended) = steps _ (λ n. if_ended (has n) (up_to end [])) test read in
    subst (λ t. IsTest (first ∷ name ∷ []) t) (ok_same (Ok (has text)) refl ended) (field_test is (some_of _ _ text named))
has_read end first (name ∷ more ∷ rest) test is read =
    let (text, named, ended) = steps _ (λ n. if_ended (has n) (up_to end (more ∷ rest))) test read in absurd (err_is_no_ok ended)

subject_read : (end : ℕ) (first : Placed) (rest : List Placed) (test : TestReading) → is_keyword (codes "has") first.token ≡ false
    → subject_test (up_to end (first ∷ rest)) ≡ Ok test → IsTest (first ∷ rest) test
subject_read end first [] test is read =
    let (subject, about, more) = steps _ (λ s. operator_test s (up_to end [])) test read in absurd (err_is_no_ok more)
subject_read end first (operator ∷ []) test is read =
    let (subject, about, more) = steps _ (λ s. operator_test s (up_to end (operator ∷ []))) test read in
    let (question, asks, last) = steps _ (λ q. answer_test q (up_to end [])) test more in
    absurd (err_is_no_ok last)
subject_read end first (operator ∷ text ∷ []) test is read =
    let (subject, about, more) = steps _ (λ s. operator_test s (up_to end (operator ∷ text ∷ []))) test read in
    let (question, asks, last) = steps _ (λ q. answer_test q (up_to end (text ∷ []))) test more in
    let (found, gives, ended) = steps _ (λ t. if_ended t (up_to end [])) test last in
    subst (λ t. IsTest (first ∷ operator ∷ text ∷ []) t) (ok_same (Ok found) refl ended)
    (comparison is (some_of _ _ subject about) (some_of _ _ question asks) (some_of _ _ found gives))
subject_read end first (operator ∷ text ∷ other ∷ rest) test is read =
    let (subject, about, more) = steps _ (λ s. operator_test s (up_to end (operator ∷ text ∷ other ∷ rest))) test read in
    let (question, asks, last) = steps _ (λ q. answer_test q (up_to end (text ∷ other ∷ rest))) test more in
    let (found, gives, ended) = steps _ (λ t. if_ended t (up_to end (other ∷ rest))) test last in
    absurd (err_is_no_ok ended)

test_read : (end : ℕ) (tokens : List Placed) (test : TestReading) → test_reading (up_to end tokens) ≡ Ok test → IsTest tokens test
test_read end [] test read = absurd (err_is_no_ok read)
test_read end (first ∷ rest) test read = cases (is_keyword (codes "has") first.token) refl read
  where
    cases : (b : Bool) → is_keyword (codes "has") first.token ≡ b
        → (if b then has_test (up_to end rest) else subject_test (up_to end (first ∷ rest))) ≡ Ok test → IsTest (first ∷ rest) test
    cases true is read = has_read end first rest test is read
    cases false is read = subject_read end first rest test is read

term_read : (end : ℕ) (tokens : List Placed) (term : TermReading) → term_reading (up_to end tokens) ≡ Ok term → IsTerm tokens term
term_read end [] term read =
    let (test, tested, same) = steps _ (λ t. Ok (record { negated = false; test = t })) term read in absurd (err_is_no_ok tested)
term_read end (first ∷ rest) term read = cases (is_keyword (codes "not") first.token) refl read
  where
    cases : (b : Bool) → is_keyword (codes "not") first.token ≡ b
        → (if b then term_with true (test_reading (up_to end rest)) else term_with false (test_reading (up_to end (first ∷ rest))))
        ≡ Ok term
        → IsTerm (first ∷ rest) term
    cases true is read =
        let (test, tested, same) = steps _ (λ t. Ok (record { negated = true; test = t })) term read in
        subst (λ t. IsTerm (first ∷ rest) t) (ok_same (Ok (record { negated = true; test = test })) refl same)
        (negated_test is (test_read end rest test tested))
    cases false is read =
        let (test, tested, same) = steps _ (λ t. Ok (record { negated = false; test = t })) term read in
        subst (λ t. IsTerm (first ∷ rest) t) (ok_same (Ok (record { negated = false; test = test })) refl same)
        (plain_test is (test_read end (first ∷ rest) test tested))

-- the readings of a term are those of the grammar
pub terms_by_grammar : (s : Segment) (term : TermReading) → (term_reading s ≡ Ok term) ↔ IsTerm s.tokens term
terms_by_grammar s term = (λ read. term_read s.end s.tokens term read, λ grammar. term_of_grammar s.end grammar)
