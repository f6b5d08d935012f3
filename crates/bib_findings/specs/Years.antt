-- Meaning: words of public contracts.
-- The finding of an entry with two different years.
use Rattle.std.specs.Prelude.{ℕ, Bool, true, not, ◌==◌, ◌&&◌, ◌||◌, List, [], ◌∷◌, codes, bytes_eq, drop, length, take, if◌then◌else◌}
use Rattle.std.specs.Char.{is_ascii_digit}
use Rattle.std.specs.List.{list_all}
use Rattle.std.specs.Str.{trim}
use Rattle.bib_dates.specs.Dates.{is_approximate, is_uncertain}
use Rattle.bib_entry.specs.declared.entry.Entry.{Entry}
use Rattle.bib_syntax.specs.Reading.{EntryReading}
use Rattle.bib_text.specs.Characters as char
use Rattle.bib_findings.specs.Entries.{field_place}
use Rattle.bib_findings.specs.Errors.{finding_at}
use Rattle.bib_findings.specs.Fields.{named_message}
use Rattle.bib_findings.specs.Identities.{own_literal}
use Rattle.bib_findings.specs.MalformedDates.{has_no_date}
use Rattle.bib_findings.specs.declared.codes.Code.TheVariants.{TwoYears}
use Rattle.bib_findings.specs.declared.finding.Finding.{Finding}

-- whether a text has four ASCII digits and nothing else
abbrev pub has_four_digits : List ℕ → Bool
has_four_digits text = length text == 4 && list_all is_ascii_digit text

-- whether these are two different years of four digits
abbrev pub are_two_years : List ℕ → List ℕ → Bool
are_two_years year other = has_four_digits year && has_four_digits other && not (bytes_eq year other)

-- whether a date may go on with this text after its year: nothing, a month, the end of a range or a mark
abbrev pub may_follow_year : List ℕ → Bool
may_follow_year [] = true
may_follow_year (b ∷ rest) = b == char.hyphen || b == char.slash || is_uncertain b || is_approximate b

-- whether `year` is four digits, and `date` begins with a year of four digits that differs from them
abbrev pub has_other_year : List ℕ → List ℕ → Bool
has_other_year year date = are_two_years year (take 4 date) && may_follow_year (drop 4 date)

-- whether the `date` of an entry begins with a year of four digits that differs from the four digits of its `year`
abbrev pub has_two_years : EntryReading → Bool
has_two_years said = has_other_year (trim (own_literal said (codes "year"))) (trim (own_literal said (codes "date")))

-- the finding of an entry with two years: Biber takes that of `date` if it can parse the date, and BibTeX that of `year`
abbrev pub year_finding : EntryReading → Finding
year_finding said =
    finding_at TwoYears (field_place said (codes "year"))
    (named_message said.key.text [] (codes "year") (codes " isn't the year of `date`, which Biber takes"))

-- the finding of an entry if it has two years; Biber ignores a `date` that it can't parse, which is a finding of its own
abbrev pub year_findings : EntryReading → Entry → List Finding
year_findings said entry = if has_two_years said && not (has_no_date said entry (codes "date")) then year_finding said ∷ [] else []
