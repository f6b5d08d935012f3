-- Meaning: words of public contracts.
-- A parsed condition has the tests of its text. Its regular expressions are compiled, and its field names are in ASCII lower case.
use Rattle.std.specs.Prelude.{◌≡◌, ◌≢◌, ℕ, List, ⊤}
use Rattle.std.specs.List.{Any}
use Rattle.std.specs.Str.{str_to_ascii_lowercase}
use Rattle.bib_tables.specs.EntryType.{entry_type_of}
use Rattle.regex.specs.Patterns.{default_config}
use Rattle.regex.specs.Strings.{regex_source, regex_config, IsReadFromSource, IsDefaultFailure}
use Rattle.regex.specs.declared.string.regex.Regex.{Regex}
use Rattle.regex.specs.declared.error.Error as regex
use Rattle.regex.specs.declared.error.Error.TheVariants as cause_kind
use Rattle.bib_select.specs.Conditions.{TermReading, TestReading, TextReading}
use Rattle.bib_select.specs.Conditions.TestReading.{has, of_type, of_other_type, key, field, year}
use Rattle.bib_select.specs.declared.errors.SelectionError.{SelectionError}
use Rattle.bib_select.specs.declared.errors.SelectionError.TheVariants.{Malformed, OutOfMemory}
use Rattle.bib_select.specs.declared.errors.SelectionErrorKind.TheVariants as kind
use Rattle.bib_select.specs.declared.terms.Operator.TheVariants as operator
use Rattle.bib_select.specs.declared.selection.Term.{Term}
use Rattle.bib_select.specs.declared.selection.Test.{Test}
use Rattle.bib_select.specs.declared.selection.Test.TheVariants as test
use Rattle.bib_select.specs.declared.selection.TextTest.{TextTest}
use Rattle.bib_select.specs.declared.selection.TextTest.TheVariants as text_test

-- the regular expression is compiled from this text, with the default options
pub record IsCompiledFrom (text : List ℕ) (regex : Regex) : Type 0 where
  pub source : regex_source regex ≡ text
  pub config : regex_config regex ≡ default_config
  pub pattern : IsReadFromSource regex

-- a test of a text has this operator and this text
abbrev pub IsTextTestOf : TextReading → TextTest → Type 0
IsTextTestOf reading (text_test.Is text) = (reading.operator ≡ operator.Is) × (reading.text ≡ text)
IsTextTestOf reading (text_test.IsNot text) = (reading.operator ≡ operator.IsNot) × (reading.text ≡ text)
IsTextTestOf reading (text_test.Contains text) = (reading.operator ≡ operator.Contains) × (reading.text ≡ text)
IsTextTestOf reading (text_test.Matches regex) = (reading.operator ≡ operator.Matches) × IsCompiledFrom reading.text regex

-- `t` is the test with this reading
abbrev pub IsTestOf : TestReading → Test → Type 0
IsTestOf (has name) t = t ≡ test.Has (str_to_ascii_lowercase name)
IsTestOf (of_type name) t = t ≡ test.OfType (entry_type_of name)
IsTestOf (of_other_type name) t = t ≡ test.OfOtherType (entry_type_of name)
IsTestOf (key reading) t = (text : TextTest) × (t ≡ test.Key text) × IsTextTestOf reading text
IsTestOf (field name reading) t = (text : TextTest) × (t ≡ test.Field (str_to_ascii_lowercase name) text) × IsTextTestOf reading text
IsTestOf (year comparison number) t = t ≡ test.Year comparison number

-- a term has this reading
pub record IsTermOf (reading : TermReading) (term : Term) : Type 0 where
  pub negated : term.negated ≡ reading.negated
  pub test : IsTestOf reading.test term.test

-- `source` is this text, and `at` is this byte offset
abbrev pub HasText : List ℕ → ℕ → List ℕ → ℕ → Type 0
HasText text place source at = (text ≡ source) × (place ≡ at)

-- the text of a test is a regular expression; `source` is the text, and `at` the byte offset of its token
abbrev pub HasTextExpression : TextReading → List ℕ → ℕ → Type 0
HasTextExpression reading source at = (reading.operator ≡ operator.Matches) × HasText reading.text reading.at source at

-- a test has the regular expression `source` at the byte offset `at`
abbrev pub HasExpression : TestReading → List ℕ → ℕ → Type 0
HasExpression (has name) source at = ⊥
HasExpression (of_type name) source at = ⊥
HasExpression (of_other_type name) source at = ⊥
HasExpression (key reading) source at = HasTextExpression reading source at
HasExpression (field name reading) source at = HasTextExpression reading source at
HasExpression (year comparison number) source at = ⊥

-- one of these terms has the regular expression `source` at the byte offset `at`
abbrev pub HasTermExpression : List TermReading → List ℕ → ℕ → Type 0
HasTermExpression terms source at = Any (λ term. HasExpression term.test source at) terms

-- a condition has the regular expression `source` at the byte offset `at`
abbrev pub HasAnyExpression : List (List TermReading) → List ℕ → ℕ → Type 0
HasAnyExpression alternatives source at = Any (λ terms. HasTermExpression terms source at) alternatives

-- `cause` is an error of the crate `regex` for the expression at a byte offset; it is never out of memory or an internal error
pub record IsExpressionError (Has : List ℕ → ℕ → Type 0) (cause : regex.Error) (at : ℕ) : Type 0 where
  pub source : List ℕ
  pub here : Has source at
  pub failure : IsDefaultFailure source cause
  pub no_memory : cause ≢ cause_kind.OutOfMemory
  pub no_internal : cause ≢ cause_kind.Internal

-- an error of compiling a condition with these regular expressions: that of one of them, or out of memory
abbrev pub IsCompileError : (List ℕ → ℕ → Type 0) → SelectionError → Type 0
IsCompileError Has OutOfMemory = ⊤
IsCompileError Has (Malformed (kind.Regex cause) at) = IsExpressionError Has cause at
IsCompileError Has (Malformed other at) = ⊥
