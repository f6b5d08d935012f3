-- Meaning: words of public contracts.
-- The findings of fields that should be a date and aren't one.
use Rattle.std.specs.Prelude.{ℕ, Bool, true, false, not, ◌&&◌, ◌||◌, ◌==◌, List, [], ◌∷◌, bytes_eq, codes, filter, if◌then◌else◌, is_none, is_some, length, map, nat_lt}
use Rattle.std.specs.FinMap as by_name
use Rattle.std.specs.Char.{is_ascii_digit}
use Rattle.std.specs.List.{after_first, before_first, list_all, list_any}
use Rattle.std.specs.Option.{option_map_or}
use Rattle.std.specs.Str.{trim}
use Rattle.bib_text.specs.Characters as char
use Rattle.bib_tables.specs.Requirements.{Names, fields}
use Rattle.bib_chunks.specs.declared.chunk.Chunk.TheVariants.{Normal}
use Rattle.bib_chunks.specs.Values.{Value, alone, text}
use Rattle.bib_dates.specs.Chunks.{date_read}
use Rattle.bib_dates.specs.Dates.{holds, is_open, without_mark}
use Rattle.bib_entry.specs.declared.entry.Entry.{Entry}
use Rattle.bib_syntax.specs.Reading.{EntryReading}
use Rattle.bib_findings.specs.Entries.{field_finding, last_named}
use Rattle.bib_findings.specs.OtherDigits.{is_other_year}
use Rattle.bib_findings.specs.declared.codes.Code.TheVariants.{MalformedDate}
use Rattle.bib_findings.specs.declared.finding.Finding.{Finding}

-- the fields that should be a date
abbrev pub fields_of_dates : Names
fields_of_dates = fields "date urldate eventdate origdate"

-- whether the library reads a text as a date
abbrev pub reads_as_date : List ℕ → Bool
reads_as_date side = is_some (date_read (alone (Normal side)))

-- a text without the hyphen at its start: the minus sign of a year
abbrev pub unsigned : List ℕ → List ℕ
unsigned [] = []
unsigned (b ∷ rest) = if b == char.hyphen then rest else b ∷ rest

-- the numbers in place of a month for seasons, quarters and other divisions of a year, each with a hyphen before it
abbrev pub year_divisions : Names
year_divisions = fields "-21 -22 -23 -24 -25 -26 -27 -28 -29 -30 -31 -32 -33 -34 -35 -36 -37 -38 -39 -40 -41"

-- whether a text without a sign is a year with a division, such as `2001-21`
abbrev pub is_division : List ℕ → Bool
is_division (a ∷ b ∷ c ∷ d ∷ number) =
    list_all is_ascii_digit (a ∷ b ∷ c ∷ d ∷ []) && list_any (λ division. bytes_eq division number) year_divisions
is_division _ = false

-- the letter before a long year
abbrev pub upper_y : ℕ
upper_y = 89

-- whether a text is a long year: `Y`, maybe a minus sign, and at least five digits, such as `Y170000002`
abbrev pub is_long_year : List ℕ → Bool
is_long_year [] = false
is_long_year (b ∷ year) = b == upper_y && (nat_lt 4 (length (unsigned year)) && list_all is_ascii_digit (unsigned year))

-- whether a text is the zone of a time: nothing, `Z`, or an offset such as `+05:30`
abbrev pub is_zone : List ℕ → Bool
is_zone [] = true
is_zone (b ∷ []) = b == char.upper_z
is_zone (sign ∷ a ∷ b ∷ mark ∷ c ∷ d ∷ []) =
    (sign == char.plus || sign == char.hyphen) && (mark == char.colon && list_all is_ascii_digit (a ∷ b ∷ c ∷ d ∷ []))
is_zone _ = false

-- whether a text is three decimals of a second and a zone
abbrev pub is_fraction : List ℕ → Bool
is_fraction (a ∷ b ∷ c ∷ zone) = list_all is_ascii_digit (a ∷ b ∷ c ∷ []) && is_zone zone
is_fraction _ = false

-- whether a text is a date and a time to the second, with three decimals. A zone and a mark may follow. The date and the time have 19 bytes
-- without a sign.
abbrev pub has_decimals : List ℕ → Bool
has_decimals side =
    is_fraction (without_mark (after_first (λ b. b == char.point) side))
    && (length (unsigned (before_first (λ b. b == char.point) side)) == 19 && reads_as_date (before_first (λ b. b == char.point) side))

-- whether a text is a year with a division or a long year, maybe with a mark at its end
abbrev pub is_special_year : List ℕ → Bool
is_special_year side = is_division (unsigned (without_mark side)) || is_long_year (without_mark side)

-- whether a text may be a side of a range, or a whole date: the side is open, the library reads it, or it has a form of its own
unfoldable pub is_side : List ℕ → Bool
is_side side = is_open side || is_special_year side || is_other_year side || reads_as_date side || has_decimals side

-- whether two texts are the sides of a range
abbrev pub are_sides : List ℕ → List ℕ → Bool
are_sides from to = not (holds char.slash to) && (is_side from && is_side to)

-- whether a text is a date in the form of the Extended Date/Time Format that Biber reads (ISO 8601-2; BibLaTeX manual, 2.3.8; Biber 2.18,
-- Biber::Date::Format): one side, or two sides with a slash between them, of which one isn't empty
abbrev pub is_edtf : List ℕ → Bool
is_edtf text =
    if holds char.slash text
    then not (bytes_eq text (codes "/"))
    && are_sides (before_first (λ b. b == char.slash) text) (after_first (λ b. b == char.slash) text)
    else is_side text

-- whether a value is neither a date that the library reads, nor blank, nor a date that Biber reads
abbrev pub is_no_date : Value → Bool
is_no_date chunks = is_none (date_read chunks) && not (length (trim (text chunks)) == 0 || is_edtf (text chunks))

-- whether an entry itself has a field, and its value is neither blank nor a date
abbrev pub has_no_date : EntryReading → Entry → List ℕ → Bool
has_no_date said entry name = is_some (last_named said.fields name) && option_map_or is_no_date (by_name.get entry.fields name) false

-- the findings of the fields of an entry that have one of these names, and whose value is neither blank nor a date
abbrev pub dates_among : EntryReading → Entry → Names → List Finding
dates_among said entry names = map (field_finding said MalformedDate (codes "malformed")) (filter (has_no_date said entry) names)

-- the findings of the fields of an entry that should be a date, and whose value is neither blank nor a date
abbrev pub date_findings : EntryReading → Entry → List Finding
date_findings said entry = dates_among said entry fields_of_dates
