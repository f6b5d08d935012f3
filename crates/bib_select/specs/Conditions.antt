-- Meaning: words of public contracts.
-- Tests, terms and conditions as lists of tokens, and the place of the first token that doesn't fit.
use Rattle.std.specs.Prelude.{ℕ, ℤ, Bool, true, false, if◌then◌else◌, List, [], ◌∷◌, codes, Option, Some, None, Result, Ok}
use Rattle.std.specs.Option.{option_map, option_and_then}
use Rattle.bib_text.specs.Enums.{value_named}
use Rattle.bib_values.specs.Numbers.{decimal_of}
use Rattle.bib_select.specs.Tokens.{Token, Placed}
use Rattle.bib_select.specs.Tokens.Token.{word, quoted, sign}
use Rattle.bib_select.specs.Segments.{Segment, and_then, first_as, if_ended, is_keyword, opens_with, segments_of, text_in_token, try_map, without_first}
use Rattle.bib_select.specs.declared.errors.SelectionError.{SelectionError}
use Rattle.bib_select.specs.declared.errors.SelectionErrorKind.{SelectionErrorKind}
use Rattle.bib_select.specs.declared.errors.SelectionErrorKind.TheVariants.{MissingTest, MissingField, MissingOperator, MissingTypeOperator, MissingYearOperator, MissingText, MissingYear}
use Rattle.bib_select.specs.declared.selection.Comparison.{Comparison}
use Rattle.bib_select.specs.declared.selection.Comparison.TheVariants.{Less, AtMost, Equal, NotEqual, AtLeast, Greater}
use Rattle.bib_select.specs.declared.terms.Operator.{Operator}
use Rattle.bib_select.specs.declared.terms.Operator.TheVariants.{Is, IsNot, Contains, Matches}

-- a text in a test: its operator, and the byte offset of its token
pub record TextReading : Type 0 where
  pub operator : Operator
  pub text : List ℕ
  pub at : ℕ

-- a test as it is written: whether the entry has a field, is of a type or isn't, or how its key, a field or its year compares
pub data TestReading : Type 0 where
  has : List ℕ → TestReading
  of_type : List ℕ → TestReading
  of_other_type : List ℕ → TestReading
  key : TextReading → TestReading
  field : List ℕ → TextReading → TestReading
  year : Comparison → ℤ → TestReading

-- a term as it is written: a test, and whether `not` is before it
pub record TermReading : Type 0 where
  pub negated : Bool
  pub test : TestReading

-- the subject of a test: `type`, `key`, `year`, or the field with another name; a name between quotes is always that of a field
pub data SubjectReading : Type 0 where
  the_type : SubjectReading
  the_key : SubjectReading
  the_year : SubjectReading
  the_field : List ℕ → SubjectReading

-- a subject with its operator
pub data QuestionReading : Type 0 where
  is_type : QuestionReading
  is_other_type : QuestionReading
  compares_key : Operator → QuestionReading
  compares_field : List ℕ → Operator → QuestionReading
  compares_year : Comparison → QuestionReading

-- the subject that a token names, or `None` for a sign
abbrev pub subject_at : Placed → Option SubjectReading
subject_at placed =
    if is_keyword (codes "type") placed.token then Some the_type
    else if is_keyword (codes "key") placed.token then Some the_key
    else if is_keyword (codes "year") placed.token then Some the_year
    else option_map the_field (text_in_token placed.token)

-- the signs of comparisons
abbrev pub comparison_signs : List (List ℕ × Comparison)
comparison_signs =
    (codes "<", Less) ∷ (codes "<=", AtMost) ∷ (codes "=", Equal) ∷ (codes "!=", NotEqual) ∷ (codes ">=", AtLeast)
    ∷ (codes ">", Greater) ∷ []

-- the signs of operators on texts
abbrev pub operator_signs : List (List ℕ × Operator)
operator_signs = (codes "=", Is) ∷ (codes "!=", IsNot) ∷ (codes "~", Matches) ∷ []

-- the value of a sign in a table
abbrev pub signed_value : {A : Type 0} → List (List ℕ × A) → Token → Option A
signed_value rows (word text) = None
signed_value rows (quoted text) = None
signed_value rows (sign text) = value_named rows text

-- the comparison of a token that is the sign of one, or `None` for any other token
abbrev pub comparison_at : Placed → Option Comparison
comparison_at placed = signed_value comparison_signs placed.token

-- the operator on texts that a token is: the sign `=`, `!=` or `~`, or the word `contains`; `None` for any other token
abbrev pub operator_at : Placed → Option Operator
operator_at placed =
    if is_keyword (codes "contains") placed.token then Some Contains else signed_value operator_signs placed.token

-- the question that an operator asks about the type, or `None` for `contains` and `~`
abbrev pub type_question : Operator → Option QuestionReading
type_question Is = Some is_type
type_question IsNot = Some is_other_type
type_question other = None

-- the question made of a subject and the operator of a token, or `None` if the token is no operator for the subject
abbrev pub question_at : SubjectReading → Placed → Option QuestionReading
question_at the_type placed = option_and_then type_question (operator_at placed)
question_at the_key placed = option_map compares_key (operator_at placed)
question_at (the_field name) placed = option_map (compares_field name) (operator_at placed)
question_at the_year placed = option_map compares_year (comparison_at placed)

-- the text of a test at a byte offset
abbrev pub text_reading : Operator → ℕ → List ℕ → TextReading
text_reading operator at text = record { operator = operator; text = text; at = at }

-- the test made of a question and a text, or `None` if the question is about a year and the text is no number by `decimal_of`
abbrev pub answer_reading : QuestionReading → ℕ → List ℕ → Option TestReading
answer_reading is_type at text = Some (of_type text)
answer_reading is_other_type at text = Some (of_other_type text)
answer_reading (compares_key operator) at text = Some (key (text_reading operator at text))
answer_reading (compares_field name operator) at text = Some (field name (text_reading operator at text))
answer_reading (compares_year comparison) at text = option_map (year comparison) (decimal_of text)

-- the test made of a question and the text of a token, or `None` if the token has no text that fits the question
abbrev pub reading_at : QuestionReading → Placed → Option TestReading
reading_at question placed = option_and_then (answer_reading question placed.at) (text_in_token placed.token)

-- the kind of the error for a question if no text that fits it follows
abbrev pub missing_text : QuestionReading → SelectionErrorKind
missing_text (compares_year comparison) = MissingYear
missing_text other = MissingText

-- the test after `has`: the name of a field
abbrev pub has_test : Segment → Result TestReading SelectionError
has_test s =
    and_then (first_as (λ placed. text_in_token placed.token) MissingField s) (λ name. if_ended (has name) (without_first s))

-- the test made of a question and the text in a segment, which must have no other token
abbrev pub answer_test : QuestionReading → Segment → Result TestReading SelectionError
answer_test question s =
    and_then (first_as (reading_at question) (missing_text question) s) (λ test. if_ended test (without_first s))

-- the kind of the error for a subject if no operator for it follows
abbrev pub missing_operator : SubjectReading → SelectionErrorKind
missing_operator the_type = MissingTypeOperator
missing_operator the_year = MissingYearOperator
missing_operator other = MissingOperator

-- the test made of a subject, and of the operator and the text in a segment, which must have no other token
abbrev pub operator_test : SubjectReading → Segment → Result TestReading SelectionError
operator_test subject s =
    and_then (first_as (question_at subject) (missing_operator subject) s) (λ question. answer_test question (without_first s))

-- the result of parsing all tokens of a segment as a test: a subject, an operator and a text
abbrev pub subject_test : Segment → Result TestReading SelectionError
subject_test s = and_then (first_as subject_at MissingTest s) (λ subject. operator_test subject (without_first s))

-- the result of parsing all tokens of a segment as a test
abbrev pub test_reading : Segment → Result TestReading SelectionError
test_reading s = if opens_with (codes "has") s then has_test (without_first s) else subject_test s

-- the term of a parsed test, or the error of parsing it
abbrev pub term_with : Bool → Result TestReading SelectionError → Result TermReading SelectionError
term_with negated result = and_then result (λ test. Ok (record { negated = negated; test = test }))

-- the result of parsing all tokens of a segment as a term: a test, or `not` and a test
abbrev pub term_reading : Segment → Result TermReading SelectionError
term_reading s =
    if opens_with (codes "not") s then term_with true (test_reading (without_first s)) else term_with false (test_reading s)

-- the result of parsing all tokens of a segment as an alternative: terms joined by `and`
abbrev pub terms_reading : Segment → Result (List TermReading) SelectionError
terms_reading s = try_map term_reading (segments_of (codes "and") s)

-- the result of parsing all tokens of a segment as a condition: alternatives joined by `or`
abbrev pub alternatives_reading : Segment → Result (List (List TermReading)) SelectionError
alternatives_reading s = try_map terms_reading (segments_of (codes "or") s)
