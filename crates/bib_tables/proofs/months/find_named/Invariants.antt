use Rattle.std.proofs.Common.{◌≡◌, drop}
use Rattle.std.specs.List.{find}
use Rattle.bib_tables.specs.Months.{is_word_of}
use Rattle.bib_tables.proofs.months.find_named.Given as goal

-- a search from this month on finds the same month as a search of all months
abbrev pub invariant-loop-month : goal.invariant-loop-month
invariant-loop-month l = find (is_word_of l.word) (drop l.month-index l.months) ≡ find (is_word_of l.word) l.months
