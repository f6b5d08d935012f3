-- Meaning: words of public contracts.
-- The months: their English names, and the abbreviations that the standard styles of BibTeX define and BibLaTeX knows.
use Rattle.std.specs.Prelude.{ℕ, Bool, ◌||◌, List, [], ◌∷◌, Option, codes}
use Rattle.std.specs.List.{find}
use Rattle.std.specs.Str.{str_eq_ignore_ascii_case}
use Rattle.bib_tables.specs.declared.months.Month.{Month}
use Rattle.bib_tables.specs.declared.months.Month.TheVariants.{January, February, March, April, May, June, July, August, September, October, November, December}

-- the months in the order of the year
abbrev pub year_months : List Month
year_months =
    January ∷ February ∷ March ∷ April ∷ May ∷ June ∷ July ∷ August ∷ September ∷ October ∷ November ∷ December ∷ []

-- the index of a month in the year, from 0
abbrev pub month_index : Month → ℕ
month_index January = 0
month_index February = 1
month_index March = 2
month_index April = 3
month_index May = 4
month_index June = 5
month_index July = 6
month_index August = 7
month_index September = 8
month_index October = 9
month_index November = 10
month_index December = 11

-- the English name of a month
abbrev pub month_name : Month → List ℕ
month_name January = codes "January"
month_name February = codes "February"
month_name March = codes "March"
month_name April = codes "April"
month_name May = codes "May"
month_name June = codes "June"
month_name July = codes "July"
month_name August = codes "August"
month_name September = codes "September"
month_name October = codes "October"
month_name November = codes "November"
month_name December = codes "December"

-- the abbreviation of a month: the first three letters of its name, in lowercase
abbrev pub month_abbreviation : Month → List ℕ
month_abbreviation January = codes "jan"
month_abbreviation February = codes "feb"
month_abbreviation March = codes "mar"
month_abbreviation April = codes "apr"
month_abbreviation May = codes "may"
month_abbreviation June = codes "jun"
month_abbreviation July = codes "jul"
month_abbreviation August = codes "aug"
month_abbreviation September = codes "sep"
month_abbreviation October = codes "oct"
month_abbreviation November = codes "nov"
month_abbreviation December = codes "dec"

-- whether a month's abbreviation is this name, in any ASCII case
abbrev pub is_abbreviated : List ℕ → Month → Bool
is_abbreviated name month = str_eq_ignore_ascii_case name (month_abbreviation month)

-- whether a word is a month's name or abbreviation, in any ASCII case
abbrev pub is_word_of : List ℕ → Month → Bool
is_word_of word month = str_eq_ignore_ascii_case word (month_name month) || is_abbreviated word month

-- the month with this abbreviation, in any ASCII case, or `None`
unfoldable pub month_of_abbreviation : List ℕ → Option Month
month_of_abbreviation name = find (is_abbreviated name) year_months

-- the month with this name or abbreviation, in any ASCII case, or `None`
unfoldable pub month_of_word : List ℕ → Option Month
month_of_word word = find (is_word_of word) year_months
