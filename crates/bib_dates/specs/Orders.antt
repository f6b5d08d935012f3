-- Meaning: words of public contracts.
-- Times, and the orders of times and of dates, as in the Rust crate `biblatex`. Two rules differ. Two unequal times of the
-- same moment are not comparable. Dates that both lack a part are ordered by the parts after it.
use Rattle.std.specs.Prelude.{ℕ, ◌+◌, ◌*◌, ℤ, pos, ◌-ℤ◌, unsigned_abs, Bool, true, false, not, ◌&&◌, nat_lt, if◌then◌else◌, Option, Some, None, is_some, nat_eq}
use Rattle.std.specs.Int.{is_negative}
use Rattle.std.specs.Option.{option_eq}
use Rattle.std.specs.Ordering.{nat_cmp, int_cmp, partial_ordering_then}
use Rattle.std.proofs.Math.Bool.{beq}
use Rattle.std.specs.declared.cmp.Ordering.{Ordering}
use Rattle.std.specs.declared.cmp.Ordering.TheVariants.{Equal}
use Rattle.bib_dates.specs.declared.date.Datetime.{Datetime}
use Rattle.bib_dates.specs.declared.date.Time.{Time}
use Rattle.bib_dates.specs.declared.date.TimeOffset.{TimeOffset}
use Rattle.bib_dates.specs.declared.date.TimeOffset.TheVariants.{Utc, Offset}

-- whether a day has a time with this hour, minute and second: 23:59:59 is the last one
abbrev pub is_clock : ℕ → ℕ → ℕ → Bool
is_clock hour minute second = not (nat_lt 23 hour) && (not (nat_lt 59 minute) && not (nat_lt 59 second))

-- the time of these parts, if a day has it
abbrev pub clock : ℕ → ℕ → ℕ → Option TimeOffset → Option Time
clock hour minute second offset =
    if is_clock hour minute second then Some (record { hour = hour; minute = minute; second = second; offset = offset }) else None

-- the seconds by which an offset is ahead of UTC; negative if it is behind UTC
abbrev pub offset_seconds : TimeOffset → ℤ
offset_seconds Utc = pos 0
offset_seconds (Offset positive hours minutes) =
    if positive then pos (3600 * hours + 60 * minutes) else pos 0 -ℤ pos (3600 * hours + 60 * minutes)

-- the seconds of an optional offset; 0 if there is none
abbrev pub shift : Option TimeOffset → ℤ
shift None = pos 0
shift (Some o) = offset_seconds o

-- the seconds since midnight minus the offset, if there is one
abbrev pub utc_seconds : Time → ℤ
utc_seconds t = pos (3600 * t.hour + 60 * t.minute + t.second) -ℤ shift t.offset

-- the offset of so many hours ahead of UTC; a negative number of hours is behind UTC
abbrev pub hours_ahead : ℤ → TimeOffset
hours_ahead hours = Offset (not (is_negative hours)) (unsigned_abs hours) 0

-- equal if the flag is true, and otherwise not comparable
abbrev pub if_equal : Bool → Option Ordering
if_equal same = if same then Some Equal else None

-- the order of an optional part: that of the part if both sides have it, equal if neither has it, and otherwise not
-- comparable
abbrev pub part_cmp : {A : Type 0} → (A → A → Option Ordering) → Option A → Option A → Option Ordering
part_cmp C None None = Some Equal
part_cmp C None (Some b) = None
part_cmp C (Some a) None = None
part_cmp C (Some a) (Some b) = C a b

-- whether two offsets have the same values
abbrev pub same_offset : TimeOffset → TimeOffset → Bool
same_offset Utc Utc = true
same_offset Utc (Offset q h m) = false
same_offset (Offset p h m) Utc = false
same_offset (Offset p h m) (Offset q k n) = beq p q && (nat_eq h k && nat_eq m n)

-- whether two times have the same values
abbrev pub same_time : Time → Time → Bool
same_time a b = nat_eq a.hour b.hour && (nat_eq a.minute b.minute && (nat_eq a.second b.second && option_eq same_offset a.offset b.offset))

-- the order of times: by their seconds if both have an offset or both have none. Times with the same seconds are equal
-- or not comparable. A time with an offset and one without are not comparable.
abbrev pub time_cmp : Time → Time → Option Ordering
time_cmp a b =
    partial_ordering_then (if_equal (beq (is_some a.offset) (is_some b.offset)))
    (partial_ordering_then (Some (int_cmp (utc_seconds a) (utc_seconds b))) (if_equal (same_time a b)))

-- the order of numbers
abbrev pub number_cmp : ℕ → ℕ → Option Ordering
number_cmp x y = Some (nat_cmp x y)

-- the order of dates, by year, month, day and time. The first of these parts that isn't equal decides; two dates are
-- not comparable if only one has that part.
abbrev pub datetime_cmp : Datetime → Datetime → Option Ordering
datetime_cmp a b =
    partial_ordering_then (Some (int_cmp a.year b.year))
    (partial_ordering_then (part_cmp number_cmp a.month b.month)
    (partial_ordering_then (part_cmp number_cmp a.day b.day) (part_cmp time_cmp a.time b.time)))
