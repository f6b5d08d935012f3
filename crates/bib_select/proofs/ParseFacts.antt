-- The errors of parsing: the error of a list of tokens is neither an unclosed quote nor that of a regular expression. A text is at most one
-- condition.
use Rattle.std.proofs.Common.{◌≡◌, ℕ, Bool, true, false, List, [], ◌∷◌, refl, sym, ap, subst, ◌∙◌, Option, Some, None}
use Rattle.std.specs.Prelude.{Result, Ok, Err, codes, if◌then◌else◌}
use Rattle.std.specs.Option.{ok_or, option_map_or}
use Rattle.bib_text.specs.Places.{place}
use Rattle.bib_text.proofs.OptionFacts.{ok_differs}
use Rattle.bib_select.specs.Compiled.{HasAnyExpression, IsCompileError}
use Rattle.bib_select.specs.Conditions.{QuestionReading, SubjectReading, TermReading, alternatives_reading, answer_test, has_test, missing_operator, missing_text, operator_test, subject_test, term_reading, term_with, terms_reading, test_reading, reading_at, question_at, subject_at}
use Rattle.bib_select.specs.Conditions.TestReading.{has}
use Rattle.bib_select.specs.Conditions.SubjectReading.{the_type, the_key, the_year, the_field}
use Rattle.bib_select.specs.Conditions.QuestionReading.{is_type, is_other_type, compares_key, compares_field, compares_year}
use Rattle.bib_select.specs.Parsed.{IsConditionText, IsErrorOfText, IsNoCondition, IsParseError, whole_text}
use Rattle.bib_select.specs.Scanning.{IsReadError}
use Rattle.bib_select.specs.Segments.{Segment, and_then, failure_at, first_as, first_token, if_ended, opens_with, segments_of, text_in_token, try_map, without_first}
use Rattle.bib_select.specs.Tokens.{Placed, AreTokens}
use Rattle.bib_select.proofs.GrammarFacts.{ok_same}
use Rattle.bib_select.proofs.JoinedFacts.{conditions_by_grammar}
use Rattle.bib_select.proofs.OneCutFacts.{one_cut}
use Rattle.bib_select.specs.declared.errors.SelectionError.{SelectionError}
use Rattle.bib_select.specs.declared.errors.SelectionError.TheVariants.{Malformed, OutOfMemory}
use Rattle.bib_select.specs.declared.errors.SelectionErrorKind.{SelectionErrorKind}
use Rattle.bib_select.specs.declared.errors.SelectionErrorKind.TheVariants.{UnclosedQuote, MissingTest, MissingField, MissingOperator, MissingTypeOperator, MissingYearOperator, MissingText, MissingYear, MissingJoint, Regex}

-- the kinds of errors of lists of tokens
abbrev pub IsTokenKind : SelectionErrorKind → Type 0
IsTokenKind UnclosedQuote = ⊥
IsTokenKind MissingTest = Unit {0}
IsTokenKind MissingField = Unit {0}
IsTokenKind MissingOperator = Unit {0}
IsTokenKind MissingTypeOperator = Unit {0}
IsTokenKind MissingYearOperator = Unit {0}
IsTokenKind MissingText = Unit {0}
IsTokenKind MissingYear = Unit {0}
IsTokenKind MissingJoint = Unit {0}
IsTokenKind (Regex cause) = ⊥

-- if there is an error, it is one of a list of tokens
abbrev pub FailsByTokens : {A : Type 0} → Result A SelectionError → Type 0
FailsByTokens (Ok a) = Unit {0}
FailsByTokens (Err (Malformed kind at)) = IsTokenKind kind
FailsByTokens (Err OutOfMemory) = ⊥

then_fails : {A B : Type 0} (r : Result A SelectionError) (next : A → Result B SelectionError) → FailsByTokens r
    → ((a : A) → FailsByTokens (next a)) → FailsByTokens (and_then r next)
then_fails (Ok a) next first others = others a
then_fails (Err (Malformed kind at)) next first others = first
then_fails (Err OutOfMemory) next first others = first

either_fails : {A : Type 0} (b : Bool) (r s : Result A SelectionError) → FailsByTokens r → FailsByTokens s
    → FailsByTokens (if b then r else s)
either_fails true r s first second = first
either_fails false r s first second = second

option_fails : {A : Type 0} (o : Option A) (kind : SelectionErrorKind) (at : ℕ) → IsTokenKind kind
    → FailsByTokens (ok_or o (Malformed kind at))
option_fails None kind at is = is
option_fails (Some a) kind at is = tt

first_fails : {A : Type 0} (reading : Placed → Option A) (kind : SelectionErrorKind) (s : Segment) → IsTokenKind kind
    → FailsByTokens (first_as reading kind s)
first_fails reading kind s is = option_fails _ kind _ is

ended_fails : {A : Type 0} (a : A) (s : Segment) → FailsByTokens (if_ended a s)
ended_fails a s = cases a (first_token s) (failure_at MissingJoint s) tt
  where
    cases : {A : Type 0} (a : A) (o : Option Placed) (e : SelectionError) → FailsByTokens {A = A} (Err e)
        → FailsByTokens (option_map_or (λ placed. Err e) o (Ok a))
    cases a None e is = tt
    cases a (Some placed) e is = is

missing_is : (question : QuestionReading) → IsTokenKind (missing_text question)
missing_is is_type = tt
missing_is is_other_type = tt
missing_is (compares_key operator) = tt
missing_is (compares_field name operator) = tt
missing_is (compares_year comparison) = tt

operator_is : (subject : SubjectReading) → IsTokenKind (missing_operator subject)
operator_is the_type = tt
operator_is the_key = tt
operator_is the_year = tt
operator_is (the_field name) = tt

-- ---- parsing fails by tokens

answer_fails : (question : QuestionReading) (s : Segment) → FailsByTokens (answer_test question s)
answer_fails question s =
    then_fails _ _ (first_fails (reading_at question) (missing_text question) s (missing_is question))
    (λ test. ended_fails test (without_first s))

operator_fails : (subject : SubjectReading) (s : Segment) → FailsByTokens (operator_test subject s)
operator_fails subject s =
    then_fails _ _ (first_fails (question_at subject) (missing_operator subject) s (operator_is subject))
    (λ question. answer_fails question (without_first s))

subject_fails : (s : Segment) → FailsByTokens (subject_test s)
subject_fails s = then_fails _ _ (first_fails subject_at MissingTest s tt) (λ subject. operator_fails subject (without_first s))

has_fails : (s : Segment) → FailsByTokens (has_test s)
has_fails s =
    then_fails _ _ (first_fails (λ placed. text_in_token placed.token) MissingField s tt) (λ name. ended_fails (has name) (without_first s))

test_fails : (s : Segment) → FailsByTokens (test_reading s)
test_fails s = either_fails (opens_with (codes "has") s) _ _ (has_fails (without_first s)) (subject_fails s)

term_fails : (s : Segment) → FailsByTokens (term_reading s)
term_fails s =
    either_fails (opens_with (codes "not") s) (term_with true (test_reading (without_first s))) (term_with false (test_reading s))
    (then_fails _ _ (test_fails (without_first s)) (λ test. tt))
    (then_fails _ _ (test_fails s) (λ test. tt))

each_fails : {A B : Type 0} (f : A → Result B SelectionError) → ((a : A) → FailsByTokens (f a)) → (xs : List A)
    → FailsByTokens (try_map f xs)
each_fails f fails [] = tt
each_fails f fails (x ∷ xs) = then_fails _ _ (fails x) (λ b. then_fails _ _ (each_fails f fails xs) (λ bs. tt))

all_fails : (s : Segment) → FailsByTokens (alternatives_reading s)
all_fails s = each_fails terms_reading (λ t. each_fails term_reading term_fails (segments_of (codes "and") t)) (segments_of (codes "or") s)

-- an error of the tokens of a text is one of parsing the text
pub refused_by_tokens : (text : List ℕ) (tokens : List Placed) → AreTokens (place text 0) (Ok tokens) → (e : SelectionError)
    → IsReadError (alternatives_reading (whole_text text tokens)) e → IsParseError text e
refused_by_tokens text tokens cut OutOfMemory is = tt
refused_by_tokens text tokens cut (Malformed UnclosedQuote at) is = absurd (subst FailsByTokens is (all_fails (whole_text text tokens)))
refused_by_tokens text tokens cut (Malformed (Regex cause) at) is = absurd (subst FailsByTokens is (all_fails (whole_text text tokens)))
refused_by_tokens text tokens cut (Malformed MissingTest at) is = record { tokens = tokens; cut = cut; reads = is }
refused_by_tokens text tokens cut (Malformed MissingField at) is = record { tokens = tokens; cut = cut; reads = is }
refused_by_tokens text tokens cut (Malformed MissingOperator at) is = record { tokens = tokens; cut = cut; reads = is }
refused_by_tokens text tokens cut (Malformed MissingTypeOperator at) is = record { tokens = tokens; cut = cut; reads = is }
refused_by_tokens text tokens cut (Malformed MissingYearOperator at) is = record { tokens = tokens; cut = cut; reads = is }
refused_by_tokens text tokens cut (Malformed MissingText at) is = record { tokens = tokens; cut = cut; reads = is }
refused_by_tokens text tokens cut (Malformed MissingYear at) is = record { tokens = tokens; cut = cut; reads = is }
refused_by_tokens text tokens cut (Malformed MissingJoint at) is = record { tokens = tokens; cut = cut; reads = is }

-- ---- a text is one condition

-- the tokens of a text that is a condition are parsed as this condition
read_of_text : {text : List ℕ} {condition : List (List TermReading)} (is : IsConditionText text condition)
    → alternatives_reading (whole_text text is.tokens) ≡ Ok condition
read_of_text {text} {condition} is = (conditions_by_grammar (whole_text text is.tokens) condition).1 is.grammar

-- a text whose tokens are parsed as a condition is this condition
pub text_of_read : (text : List ℕ) (tokens : List Placed) (condition : List (List TermReading)) → AreTokens (place text 0) (Ok tokens)
    → alternatives_reading (whole_text text tokens) ≡ Ok condition → IsConditionText text condition
text_of_read text tokens condition cut read = record {
  tokens = tokens;
  cut = cut;
  grammar = (conditions_by_grammar (whole_text text tokens) condition).0 read;
}

-- the error of an expression of a condition is one of parsing its text
pub refused_by_expression : (text : List ℕ) (condition : List (List TermReading)) (e : SelectionError) → IsConditionText text condition
    → IsCompileError (HasAnyExpression condition) e → IsParseError text e
refused_by_expression text condition OutOfMemory is refused = tt
refused_by_expression text condition (Malformed (Regex cause) at) is refused = record { condition = condition; is = is; refused = refused }
refused_by_expression text condition (Malformed UnclosedQuote at) is refused = absurd refused
refused_by_expression text condition (Malformed MissingTest at) is refused = absurd refused
refused_by_expression text condition (Malformed MissingField at) is refused = absurd refused
refused_by_expression text condition (Malformed MissingOperator at) is refused = absurd refused
refused_by_expression text condition (Malformed MissingTypeOperator at) is refused = absurd refused
refused_by_expression text condition (Malformed MissingYearOperator at) is refused = absurd refused
refused_by_expression text condition (Malformed MissingText at) is refused = absurd refused
refused_by_expression text condition (Malformed MissingYear at) is refused = absurd refused
refused_by_expression text condition (Malformed MissingJoint at) is refused = absurd refused

-- two lists of tokens of a text are the same
same_tokens : {text : List ℕ} {a b : List Placed} → AreTokens (place text 0) (Ok a) → AreTokens (place text 0) (Ok b) → a ≡ b
same_tokens {a = a} first second = ok_same (Ok a) refl (one_cut first second)

-- two results of parsing one text are the same
same_result : (text : List ℕ) {a b : List Placed} {r s : Result (List (List TermReading)) SelectionError}
    → AreTokens (place text 0) (Ok a) → AreTokens (place text 0) (Ok b) → alternatives_reading (whole_text text a) ≡ r
    → alternatives_reading (whole_text text b) ≡ s → r ≡ s
same_result text first second is other =
    sym is ∙ ap (λ tokens. alternatives_reading (whole_text text tokens)) (same_tokens first second) ∙ other

pub one_condition : (text : List ℕ) (condition other : List (List TermReading)) → IsConditionText text condition
    → IsConditionText text other → condition ≡ other
one_condition text condition other first second =
    ok_same (Ok condition) refl (same_result text first.cut second.cut (read_of_text first) (read_of_text second))

-- the tokens of a condition have no error
no_misfit : (text : List ℕ) {condition : List (List TermReading)} {e : SelectionError} → IsConditionText text condition
    → IsNoCondition text e → ⊥
no_misfit text is refused = ok_differs (same_result text is.cut refused.cut (read_of_text is) refused.reads)

-- a condition has no error of its text
pub no_error : (text : List ℕ) (condition : List (List TermReading)) (e : SelectionError) → IsConditionText text condition
    → IsParseError text e → IsErrorOfText e → ⊥
no_error text condition OutOfMemory is refused syntax = syntax
no_error text condition (Malformed (Regex cause) at) is refused syntax = syntax
no_error text condition (Malformed UnclosedQuote at) is refused syntax = ok_differs (one_cut is.cut refused)
no_error text condition (Malformed MissingTest at) is refused syntax = no_misfit text is refused
no_error text condition (Malformed MissingField at) is refused syntax = no_misfit text is refused
no_error text condition (Malformed MissingOperator at) is refused syntax = no_misfit text is refused
no_error text condition (Malformed MissingTypeOperator at) is refused syntax = no_misfit text is refused
no_error text condition (Malformed MissingYearOperator at) is refused syntax = no_misfit text is refused
no_error text condition (Malformed MissingText at) is refused syntax = no_misfit text is refused
no_error text condition (Malformed MissingYear at) is refused syntax = no_misfit text is refused
no_error text condition (Malformed MissingJoint at) is refused syntax = no_misfit text is refused
