-- Meaning: words of public contracts.
-- Whether an entry meets a condition.
use Rattle.std.specs.Prelude.{ℕ, ℤ, Bool, false, not, if◌then◌else◌, List, [], codes, bytes_eq, Option, Some, None, is_some}
use Rattle.std.specs.FinMap as by_name
use Rattle.std.specs.List.{list_all, list_any}
use Rattle.std.specs.Option.{option_and_then, option_map, option_map_or}
use Rattle.std.specs.Ordering.{int_cmp, is_lt, is_le, is_eq, is_ne, is_ge, is_gt}
use Rattle.bib_chunks.specs.Values.{Value, text}
use Rattle.bib_dates.specs.Chunks.{date_read}
use Rattle.bib_dates.specs.Readings.{readable_value}
use Rattle.bib_dates.specs.declared.date.Date.{Date}
use Rattle.bib_dates.specs.declared.date.DateValue.{DateValue}
use Rattle.bib_dates.specs.declared.date.DateValue.TheVariants.{At, After, Before, Between}
use Rattle.bib_entry.specs.DateFields.{date_part, three_parts}
use Rattle.bib_entry.specs.declared.entry.Entry.{Entry}
use Rattle.bib_queries.specs.Answers.{has_part}
use Rattle.bib_tables.specs.contracts.mechanics.EntryTypePartialEq.TheImpl as types
use Rattle.regex.specs.Patterns.{find_str}
use Rattle.regex.specs.Strings.{regex_pattern}
use Rattle.bib_select.specs.declared.selection.Comparison.{Comparison}
use Rattle.bib_select.specs.declared.selection.Comparison.TheVariants.{Less, AtMost, Equal, NotEqual, AtLeast, Greater}
use Rattle.bib_select.specs.declared.selection.Selection.{Selection}
use Rattle.bib_select.specs.declared.selection.Term.{Term}
use Rattle.bib_select.specs.declared.selection.Test.{Test}
use Rattle.bib_select.specs.declared.selection.Test.TheVariants.{Has, OfType, OfOtherType, Key, Field, Year}
use Rattle.bib_select.specs.declared.selection.TextTest.{TextTest}
use Rattle.bib_select.specs.declared.selection.TextTest.TheVariants.{Is, IsNot, Contains, Matches}

-- whether a text passes a test
abbrev pub passes_text_test : TextTest → List ℕ → Bool
passes_text_test (Is wanted) text = bytes_eq text wanted
passes_text_test (IsNot wanted) text = not (bytes_eq text wanted)
passes_text_test (Contains wanted) text = has_part wanted text
passes_text_test (Matches regex) text = is_some (find_str (regex_pattern regex) text 0)

-- whether a comparison holds for two numbers
abbrev pub compares_so : Comparison → ℤ → ℤ → Bool
compares_so Less number other = is_lt (int_cmp number other)
compares_so AtMost number other = is_le (int_cmp number other)
compares_so Equal number other = is_eq (int_cmp number other)
compares_so NotEqual number other = is_ne (int_cmp number other)
compares_so AtLeast number other = is_ge (int_cmp number other)
compares_so Greater number other = is_gt (int_cmp number other)

-- the year of a date, or of the first known date of a range
abbrev pub value_year : DateValue → ℤ
value_year (At date) = date.year
value_year (After date) = date.year
value_year (Before date) = date.year
value_year (Between date other) = date.year

-- the date in the field `date`, or else in the fields of its parts, if it can be parsed
abbrev pub publication_date : Entry → Option Value → Option Date
publication_date entry (Some chunks) = date_read chunks
publication_date entry None = option_and_then (λ year. readable_value (three_parts [] entry year)) (date_part [] entry (codes "year"))

-- the year of the date of an entry, if it has one that can be parsed
abbrev pub publication_year : Entry → Option ℤ
publication_year entry = option_map (λ date. value_year date.value) (publication_date entry (date_part [] entry (codes "date")))

-- whether an entry passes a test
abbrev pub passes_test : Entry → Test → Bool
passes_test entry (Has name) = is_some (by_name.get entry.fields name)
passes_test entry (OfType kind) = types.ghosts.eq entry.entry_type kind
passes_test entry (OfOtherType kind) = not (types.ghosts.eq entry.entry_type kind)
passes_test entry (Key test) = passes_text_test test entry.key
passes_test entry (Field name test) = option_map_or (λ chunks. passes_text_test test (text chunks)) (by_name.get entry.fields name) false
passes_test entry (Year comparison year) = option_map_or (λ found. compares_so comparison found year) (publication_year entry) false

-- whether an entry meets a term: with `not`, it doesn't pass the test
abbrev pub meets_term : Entry → Term → Bool
meets_term entry term = if term.negated then not (passes_test entry term.test) else passes_test entry term.test

-- whether an entry meets a condition: it meets all terms of one of the alternatives
abbrev pub meets : Entry → Selection → Bool
meets entry selection = list_any (list_all (meets_term entry)) selection.alternatives
