-- Meaning: words of public contracts.
-- Errors of typed values, out of memory, and how they are printed. Each kind that the Rust crate `biblatex` has is printed as
-- there.
use Rattle.std.specs.Prelude.{ℕ, List, ◌++◌, codes}
use Rattle.std.specs.Fmt.{decimal}
use Rattle.bib_tables.specs.declared.type_error.TypeErrorKind.{TypeErrorKind}
use Rattle.bib_tables.specs.declared.type_error.TypeErrorKind.TheVariants.{UndefinedRange, DayOutOfRange, MonthOutOfRange, InvalidNumber, MissingNumber, WrongNumberOfDigits, InvalidFormat, UnknownGender, InvalidIntegerRange, UnknownPagination, UnknownEditorType, UnknownLangId, YearZeroCE, OutOfMemory}
use Rattle.bib_tables.specs.declared.type_error.TypeError.{TypeError}

-- the printed text of a kind
abbrev pub type_kind_text : TypeErrorKind → List ℕ
type_kind_text UndefinedRange = codes "range must not be open on both sides"
type_kind_text DayOutOfRange = codes "day out of range (must be between 1 and 31)"
type_kind_text MonthOutOfRange = codes "month out of range (must be between 1 and 12)"
type_kind_text InvalidNumber = codes "invalid number"
type_kind_text MissingNumber = codes "missing number"
type_kind_text WrongNumberOfDigits = codes "wrong number of digits"
type_kind_text InvalidFormat = codes "invalid format"
type_kind_text UnknownGender = codes "unknown gender"
type_kind_text InvalidIntegerRange = codes "invalid integer range"
type_kind_text UnknownPagination = codes "unknown pagination"
type_kind_text UnknownEditorType = codes "unknown editor type"
type_kind_text UnknownLangId = codes "unknown language id"
type_kind_text YearZeroCE = codes "year 0 CE or BCE does not exist"
type_kind_text OutOfMemory = codes "out of memory"

-- the printed text of an error: its kind, and its span in bytes
abbrev pub type_error_text : TypeError → List ℕ
type_error_text e = type_kind_text e.kind ++ codes ": " ++ decimal e.span.start ++ codes "-" ++ decimal e.span.end

-- out of memory, which is not an error of the chunks
abbrev pub no_memory : TypeError
no_memory = record { span = record { start = 0; end = 0 }; kind = OutOfMemory }
