-- Machinery: words of private contracts.
-- The offsets from which parsing fields fails, kept because parts of a text are parsed more than once.
use Rattle.std.specs.Prelude.{ℕ, List, IfSome}
use Rattle.std.specs.BTreeMap as tree
use Rattle.std.specs.List.{All}
use Rattle.std.specs.Ordering.{nat_cmp}
use Rattle.bib_text.specs.Places.{place}
use Rattle.bib_syntax.specs.Errors.{IsSyntaxError}
use Rattle.bib_syntax.specs.SyntaxErrors.{FieldsFails, Reports}
use Rattle.bib_syntax.specs.declared.raw.ParseError.{ParseError}
use Rattle.bib_syntax.specs.declared.raw.failures.Failures.{Failures}

-- parsing fields from the offset `at` of `text` fails with the error `e`
pub record FailsAt (text : List ℕ) (e : ParseError) (at : ℕ) : Type 0 where
  pub error : IsSyntaxError text e
  pub fails : Reports (FieldsFails (place text at)) e

-- parsing fields from each of the offsets `starts` of `text` fails with the error `e`
abbrev pub AllFail : List ℕ → ParseError → List ℕ → Type 0
AllFail text e starts = All (FailsAt text e) starts

-- from each offset in `failures`, parsing fields of `text` fails with the error of this offset
abbrev pub AreFailures : List ℕ → Failures → Type 0
AreFailures text failures = (at : ℕ) → IfSome (tree.get nat_cmp failures.errors at) (λ e. FailsAt text e at)
