use Rattle.std.proofs.Common.{◌≡◌, length, false, take}
use Rattle.std.specs.List.{list_any}
use Rattle.bib_inheritance.specs.Resolving.{is_bad_date, texts_of_entries}
use Rattle.bib_inheritance.specs.Turning.{IsCacheOf}
use Rattle.bib_inheritance.proofs.unread.first_unread.Given as goal

-- none of the entries so far has an unreadable date
abbrev pub invariant-indices : goal.invariant-indices
invariant-indices l = record {
  read : list_any (is_bad_date (texts_of_entries l.entries)) (take l.r-index l.indices) ≡ false;
  dates : IsCacheOf l.entries l.dates;
}
