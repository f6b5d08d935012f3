-- Meaning: words of public contracts.
-- Results of parsing a text. Some kinds of errors are specified and others aren't.
use Rattle.std.specs.Prelude.{◌≡◌, ℕ, List, Option, Some, None, ⊤}
use Rattle.bib_tables.specs.declared.type_error.TypeErrorKind.{TypeErrorKind}
use Rattle.bib_tables.specs.declared.type_error.TypeErrorKind.TheVariants.{UndefinedRange, DayOutOfRange, MonthOutOfRange, InvalidNumber, MissingNumber, WrongNumberOfDigits, InvalidFormat, YearZeroCE}

-- a value, an error of this kind, or an error whose kind isn't specified
pub data Reading (A : Type 0) : Type 0 where
  says : A → Reading A
  error : TypeErrorKind → Reading A
  unread : Reading A

-- the next step of parsing, which takes the value of the first one; an error of the first one is kept
infixl 10 ◌>>=◌
abbrev pub ◌>>=◌ : {A B : Type 0} → Reading A → (A → Reading B) → Reading B
says a >>= next = next a
error kind >>= next = error kind
unread >>= next = unread

-- a part that is parsed at the start of a text, with the rest of the text
abbrev pub Parsed : Type 0 → Type 0
Parsed A = Reading (A × List ℕ)

-- the value, if there is one
abbrev pub readable_value : {A : Type 0} → Reading A → Option A
readable_value (says a) = Some a
readable_value (error kind) = None
readable_value unread = None

-- the kinds of errors that dates have, except out of memory
abbrev pub IsDateKind : TypeErrorKind → Type 0
IsDateKind UndefinedRange = ⊤
IsDateKind DayOutOfRange = ⊤
IsDateKind MonthOutOfRange = ⊤
IsDateKind InvalidNumber = ⊤
IsDateKind MissingNumber = ⊤
IsDateKind WrongNumberOfDigits = ⊤
IsDateKind InvalidFormat = ⊤
IsDateKind YearZeroCE = ⊤
IsDateKind other = ⊥

-- the kinds that a date's error may have if the definition specifies none: a number is invalid, missing or has a wrong
-- number of digits, or the format is invalid. The error is never a range open on both sides, a month or a day out of range,
-- or the year 0
abbrev pub IsUnreadKind : TypeErrorKind → Type 0
IsUnreadKind InvalidNumber = ⊤
IsUnreadKind MissingNumber = ⊤
IsUnreadKind WrongNumberOfDigits = ⊤
IsUnreadKind InvalidFormat = ⊤
IsUnreadKind other = ⊥

-- the kinds that an error may have, except out of memory: the specified one, or any of four if none is specified
abbrev pub MayRefuse : {A : Type 0} → Reading A → TypeErrorKind → Type 0
MayRefuse (says a) kind = ⊥
MayRefuse (error promised) kind = (kind ≡ promised) × IsDateKind kind
MayRefuse unread kind = IsUnreadKind kind
