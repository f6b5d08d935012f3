-- Meaning: words of public contracts.
-- The dates of an entry. Each is one field, or else three fields of its year, month and day. All four names have the same
-- prefix, such as `url` in `urldate`, `urlyear`, `urlmonth` and `urlday`.
use Rattle.std.specs.Prelude.{◌≡◌, ◌≢◌, ℕ, List, ◌++◌, codes, Option, Some, None, Result, Ok, Err, OnOk, OnErr, ⊤}
use Rattle.std.specs.declared.alloc.AllocError.{AllocError}
use Rattle.std.specs.declared.ops.Range.{Range}
use Rattle.std.specs.FinMap as by_name
use Rattle.bib_tables.specs.declared.type_error.TypeErrorKind.TheVariants as kind
use Rattle.bib_dates.specs.Chunks.{three_fields_reading, three_fields_place}
use Rattle.bib_dates.specs.Readings.{Reading, readable_value, MayRefuse}
use Rattle.bib_dates.specs.declared.date.Date.{Date}
use Rattle.bib_typed.specs.declared.typed.PermissiveType.{PermissiveType}
use Rattle.bib_typed.specs.declared.typed.PermissiveType.TheVariants.{Typed, Chunks}
use Rattle.bib_typed.specs.declared.typed.Type.{Ghosts}
use Rattle.bib_chunks.specs.Values.{Value}
use Rattle.bib_entry.specs.Fields.{with_field}
use Rattle.bib_typed.specs.Retrieved.{IsRetrieved, field_as}
use Rattle.bib_entry.specs.declared.entry.Entry.{Entry}
use Rattle.bib_typed.specs.declared.retrieval.RetrievalError.{RetrievalError}
use Rattle.bib_typed.specs.declared.retrieval.RetrievalError.TheVariants.{Missing, TypeError, OutOfMemory}

-- the field of a part of a date, with a prefix
abbrev pub date_part : List ℕ → Entry → List ℕ → Option Value
date_part prefix entry part = by_name.get entry.fields (prefix ++ part)

-- the result of parsing a year with the month and the day of the same prefix as a date
abbrev pub three_parts : List ℕ → Entry → Value → Reading Date
three_parts prefix entry year = three_fields_reading year (date_part prefix entry (codes "month")) (date_part prefix entry (codes "day"))

-- the span of an error in these three fields
abbrev pub three_parts_place : List ℕ → Entry → Value → Range ℕ
three_parts_place prefix entry year =
    three_fields_place year (date_part prefix entry (codes "month")) (date_part prefix entry (codes "day"))

-- the result is the parsed date; or a `TypeError` at this span, of a kind that `reading` allows, if the fields are no date;
-- or out of memory
abbrev pub IsDateRead : Reading Date → Range ℕ → Result (PermissiveType Date) RetrievalError → Type 0
IsDateRead reading place (Ok (Typed date)) = readable_value reading ≡ Some date
IsDateRead reading place (Ok (Chunks chunks)) = ⊥
IsDateRead reading place (Err (Missing reported)) = ⊥
IsDateRead reading place (Err (TypeError e)) =
    (e.kind ≢ kind.OutOfMemory) × (readable_value reading ≡ None) × MayRefuse reading e.kind × (e.span ≡ place)
IsDateRead reading place (Err OutOfMemory) = ⊤

-- the result is the error `Missing` with the name `year`, or out of memory
abbrev pub IsNoYear : Result (PermissiveType Date) RetrievalError → Type 0
IsNoYear (Ok date) = ⊥
IsNoYear (Err (Missing reported)) = reported ≡ codes "year"
IsNoYear (Err (TypeError e)) = ⊥
IsNoYear (Err OutOfMemory) = ⊤

-- the result of getting a date, from its field and the field of its year. If there is a date field, the result is that field
-- as a date, or else its chunks. If there is a year but no date field, it is the result of parsing the three fields.
-- Otherwise the error is `Missing` with the name `year`, for any prefix. Any result may be out of memory instead
abbrev pub IsDateOf : Ghosts (PermissiveType Date) → List ℕ → Entry → Option Value → Option Value
    → Result (PermissiveType Date) RetrievalError → Type 0
IsDateOf type prefix entry (Some chunks) year result = IsRetrieved type (Some chunks) (prefix ++ codes "date") result
IsDateOf type prefix entry None (Some year) result = IsDateRead (three_parts prefix entry year) (three_parts_place prefix entry year) result
IsDateOf type prefix entry None None result = IsNoYear result

-- `result` is the result of getting the date with this prefix
pub record GetsDate (type : Ghosts (PermissiveType Date)) (prefix : List ℕ) (entry : Entry)
    (result : Result (PermissiveType Date) RetrievalError) : Type 0 where
  pub date : IsDateOf type prefix entry (date_part prefix entry (codes "date")) (date_part prefix entry (codes "year")) result

-- an entry without the field of a part of a date
abbrev pub without_part : List ℕ → List ℕ → Entry → Entry
without_part prefix part entry = record entry { fields = by_name.remove entry.fields (prefix ++ part) }

-- an entry with the field of a date set to these chunks, and without its year, month and day
abbrev pub with_date : List ℕ → Entry → Value → Entry
with_date prefix entry chunks =
    without_part prefix (codes "day")
    (without_part prefix (codes "month")
    (without_part prefix (codes "year") (with_field entry (prefix ++ codes "date") chunks)))

-- the date is set to the chunks that a value of this meaning is written as. Its year, month and day are removed, and no
-- other field changes. If the type keeps the value, the field parses back to that value. If memory runs out, nothing changes
pub record SetsDate (type : Ghosts (PermissiveType Date)) (m : type.Meaning) (prefix : List ℕ) (old new : Entry)
    (result : Result (Unit {0}) AllocError) : Type 0 where
  pub set : OnOk result (new ≡ with_date prefix old (type.writes m))
  pub kept : OnOk result (type.kept m → field_as type.reads (date_part prefix new (codes "date")) ≡ Some m)
  pub refused : OnErr result (new ≡ old)
