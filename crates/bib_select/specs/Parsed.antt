-- Meaning: words of public contracts.
-- Parsing a condition: the condition that a text is, or the error of a text that is no condition.
use Rattle.std.specs.Prelude.{◌≡◌, ℕ, List, length, Ok, Err, ⊤}
use Rattle.std.specs.List.{AllZip}
use Rattle.bib_text.specs.Places.{place}
use Rattle.bib_select.specs.Compiled.{HasAnyExpression, IsCompileError, IsTermOf}
use Rattle.bib_select.specs.Conditions.{TermReading, alternatives_reading}
use Rattle.bib_select.specs.Grammar.{IsCondition}
use Rattle.bib_select.specs.Segments.{Segment}
use Rattle.bib_select.specs.Tokens.{Placed, AreTokens}
use Rattle.bib_select.specs.declared.errors.SelectionError.{SelectionError}
use Rattle.bib_select.specs.declared.errors.SelectionError.TheVariants.{Malformed, OutOfMemory}
use Rattle.bib_select.specs.declared.errors.SelectionErrorKind.TheVariants.{Regex, UnclosedQuote}
use Rattle.bib_select.specs.declared.selection.Selection.{Selection}

-- the segment with all tokens of a text
abbrev pub whole_text : List ℕ → List Placed → Segment
whole_text text tokens = record { tokens = tokens; end = length text }

-- the tokens of the text are this condition
pub record IsConditionText (text : List ℕ) (condition : List (List TermReading)) : Type 0 where
  pub tokens : List Placed
  pub cut : AreTokens (place text 0) (Ok tokens)
  pub grammar : IsCondition tokens condition

-- the tokens of the text are no condition: parsing them has this error
pub record IsNoCondition (text : List ℕ) (error : SelectionError) : Type 0 where
  pub tokens : List Placed
  pub cut : AreTokens (place text 0) (Ok tokens)
  pub reads : alternatives_reading (whole_text text tokens) ≡ Err error

-- the text is a condition, and the selection has its compiled tests
pub record IsParsed (text : List ℕ) (selection : Selection) : Type 0 where
  pub condition : List (List TermReading)
  pub is : IsConditionText text condition
  pub compiled : AllZip (AllZip IsTermOf) condition selection.alternatives

-- the text is a condition, and the error is that of one of its regular expressions, or out of memory
pub record IsExpressionRefused (text : List ℕ) (error : SelectionError) : Type 0 where
  pub condition : List (List TermReading)
  pub is : IsConditionText text condition
  pub refused : IsCompileError (HasAnyExpression condition) error

-- the error of parsing a text: a quote that isn't closed, the error of a regular expression, the first token that doesn't fit, an end that
-- is too early, or out of memory
abbrev pub IsParseError : List ℕ → SelectionError → Type 0
IsParseError text OutOfMemory = ⊤
IsParseError text (Malformed UnclosedQuote at) = AreTokens (place text 0) (Err at)
IsParseError text (Malformed (Regex cause) at) = IsExpressionRefused text (Malformed (Regex cause) at)
IsParseError text (Malformed other at) = IsNoCondition text (Malformed other at)

-- an error of the text, and not of a regular expression or of memory
abbrev pub IsErrorOfText : SelectionError → Type 0
IsErrorOfText OutOfMemory = ⊥
IsErrorOfText (Malformed (Regex cause) at) = ⊥
IsErrorOfText (Malformed other at) = ⊤
