-- Meaning: words of public contracts.
-- The text of a date that an entry inherits: it is written from the parsed date, and so without its time. If the date
-- is in separate fields, their year, month and day are parsed instead.
use Rattle.std.specs.Prelude.{ℕ, List, Option}
use Rattle.std.specs.Option.{option_map}
use Rattle.bib_dates.specs.Readings.{readable_value}
use Rattle.bib_dates.specs.Dates.{date_of}
use Rattle.bib_dates.specs.ThreeFields.{three_fields_of}
use Rattle.bib_dates.specs.Written.{date_text}

-- the text of the date parsed from a text, if it can be parsed
abbrev pub rewritten_date : List ℕ → Option (List ℕ)
rewritten_date text = option_map date_text (readable_value (date_of text))

-- the text of the date parsed from a year, a month and a day, if they can be parsed
abbrev pub rewritten_three_fields : List ℕ → Option (List ℕ) → Option (List ℕ) → Option (List ℕ)
rewritten_three_fields year month day = option_map date_text (readable_value (three_fields_of year month day))
