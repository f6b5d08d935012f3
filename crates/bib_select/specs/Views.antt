-- Machinery: words of private contracts.
-- Tokens, segments and tests of the code as those of the definitions.
use Rattle.std.specs.Prelude.{ℕ, List, [], map, Option, Some, None, Result, Ok, Err}
use Rattle.std.specs.Global.{Vec}
use Rattle.bib_select.specs.Tokens as spec
use Rattle.bib_select.specs.Tokens.{Token as token}
use Rattle.bib_select.specs.Segments as segments
use Rattle.bib_select.specs.Segments.{segments_of}
use Rattle.bib_select.specs.Conditions.{TermReading, TestReading, TextReading, SubjectReading, QuestionReading}
use Rattle.bib_select.specs.Conditions.{TestReading as test, SubjectReading as subject, QuestionReading as question}
use Rattle.bib_select.specs.declared.errors.SelectionError.{SelectionError}
use Rattle.bib_select.specs.declared.tokens.Token.{Token}
use Rattle.bib_select.specs.declared.tokens.Token.TheVariants.{Word, Quoted, Sign}
use Rattle.bib_select.specs.declared.tokens.Placed.{Placed}
use Rattle.bib_select.specs.declared.segments.Segment.{Segment}
use Rattle.bib_select.specs.declared.terms.RawText.{RawText}
use Rattle.bib_select.specs.declared.terms.RawTest.{RawTest}
use Rattle.bib_select.specs.declared.terms.RawTest.TheVariants as raw
use Rattle.bib_select.specs.declared.terms.RawTerm.{RawTerm}
use Rattle.bib_select.specs.declared.terms.Subject.{Subject}
use Rattle.bib_select.specs.declared.terms.Subject.TheVariants as subjects
use Rattle.bib_select.specs.declared.terms.Question.{Question}
use Rattle.bib_select.specs.declared.terms.Question.TheVariants as questions

-- a token of the code as one of the definitions
abbrev pub token_of : Token → spec.Token
token_of (Word text) = token.word text.now
token_of (Quoted text) = token.quoted text.now
token_of (Sign text) = token.sign text.now

-- a token with its offset
abbrev pub placed_of : Placed → spec.Placed
placed_of placed = record { token = token_of placed.token; at = placed.at }

-- a segment of the code as one of the definitions
abbrev pub segment_of : Segment → segments.Segment
segment_of s = record { tokens = map placed_of s.tokens.now; end = s.end }

-- the segments between the words `joint` in the rest of a segment, if there is a rest
abbrev pub segments_left : List ℕ → Option Segment → List segments.Segment
segments_left joint None = []
segments_left joint (Some rest) = segments_of joint (segment_of rest)

-- a text with its operator and its offset
abbrev pub text_reading_of : RawText → TextReading
text_reading_of text = record { operator = text.operator; text = text.text.now; at = text.at }

-- a test as it is written
abbrev pub test_reading_of : RawTest → TestReading
test_reading_of (raw.Has name) = test.has name.now
test_reading_of (raw.OfType name) = test.of_type name.now
test_reading_of (raw.OfOtherType name) = test.of_other_type name.now
test_reading_of (raw.Key text) = test.key (text_reading_of text)
test_reading_of (raw.Field name text) = test.field name.now (text_reading_of text)
test_reading_of (raw.Year comparison number) = test.year comparison number

-- a term as it is written
abbrev pub term_reading_of : RawTerm → TermReading
term_reading_of term = record { negated = term.negated; test = test_reading_of term.test }

-- the subject of a test
abbrev pub subject_of : Subject → SubjectReading
subject_of subjects.EntryType = subject.the_type
subject_of subjects.Key = subject.the_key
subject_of subjects.Year = subject.the_year
subject_of (subjects.Field name) = subject.the_field name.now

-- a subject with its operator
abbrev pub question_of : Question → QuestionReading
question_of questions.OfType = question.is_type
question_of questions.OfOtherType = question.is_other_type
question_of (questions.Key operator) = question.compares_key operator
question_of (questions.Field name operator) = question.compares_field name.now operator
question_of (questions.Year comparison) = question.compares_year comparison

-- the result of parsing a test
abbrev pub test_result : Result RawTest SelectionError → Result TestReading SelectionError
test_result (Ok test) = Ok (test_reading_of test)
test_result (Err error) = Err error

-- the result of parsing a term
abbrev pub term_result : Result RawTerm SelectionError → Result TermReading SelectionError
term_result (Ok term) = Ok (term_reading_of term)
term_result (Err error) = Err error

-- the terms of an alternative
abbrev pub terms_reading_of : Vec RawTerm → List TermReading
terms_reading_of terms = map term_reading_of terms.items
