-- Machinery: words of private contracts.
-- The results of private functions as readings: `Specified` contains the kind of error that the definition specifies.
use Rattle.std.specs.Prelude.{ℕ, List, Result, Ok, Err}
use Rattle.std.specs.Borrow.{Bor}
use Rattle.bib_tables.specs.declared.type_error.TypeErrorKind.{TypeErrorKind}
use Rattle.bib_tables.specs.declared.type_error.TypeErrorKind.TheVariants as Kind
use Rattle.bib_dates.specs.declared.errors.SpecifiedKind.{SpecifiedKind}
use Rattle.bib_dates.specs.declared.errors.SpecifiedKind.TheVariants.{UndefinedRange, DayOutOfRange, MonthOutOfRange, InvalidNumber, WrongNumberOfDigits, InvalidFormat, YearZeroCE}
use Rattle.bib_dates.specs.declared.errors.ReadError.{ReadError}
use Rattle.bib_dates.specs.declared.errors.ReadError.TheVariants.{Specified, Unspecified}
use Rattle.bib_dates.specs.Readings.{Reading, Parsed}
use Rattle.bib_dates.specs.Readings.Reading.{says, error, unread}

-- a specified kind as a kind of type errors
abbrev pub error_kind_of : SpecifiedKind → TypeErrorKind
error_kind_of UndefinedRange = Kind.UndefinedRange
error_kind_of DayOutOfRange = Kind.DayOutOfRange
error_kind_of MonthOutOfRange = Kind.MonthOutOfRange
error_kind_of InvalidNumber = Kind.InvalidNumber
error_kind_of WrongNumberOfDigits = Kind.WrongNumberOfDigits
error_kind_of InvalidFormat = Kind.InvalidFormat
error_kind_of YearZeroCE = Kind.YearZeroCE

-- the result of a private function as a reading
abbrev pub reading : {A : Type 0} → Result A ReadError → Reading A
reading (Ok a) = says a
reading (Err (Specified reason)) = error (error_kind_of reason)
reading (Err (Unspecified reason)) = unread

-- the result of a private function that parses a part as a reading, with the rest of the text
abbrev pub part_reading : {A : Type 0} → Result (A × Bor (List ℕ)) ReadError → Parsed A
part_reading (Ok p) = says (p.0, p.1.now)
part_reading (Err (Specified reason)) = error (error_kind_of reason)
part_reading (Err (Unspecified reason)) = unread

-- the result of a private function that returns only the rest of a text, as a reading
abbrev pub rest : Result (Bor (List ℕ)) ReadError → Reading (List ℕ)
rest (Ok text) = says text.now
rest (Err (Specified reason)) = error (error_kind_of reason)
rest (Err (Unspecified reason)) = unread
