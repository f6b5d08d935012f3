use Rattle.std.proofs.Common.{◌≡◌, ◌-◌, length, drop, map, None}
use Rattle.bib_inheritance.specs.InheritableDate.{last_date}
use Rattle.bib_inheritance.specs.Resolving.{at_index, texts_of_entries}
use Rattle.bib_inheritance.specs.Turning.{AddsAmong, IsCacheOf}
use Rattle.bib_inheritance.proofs.dates.last_date.Given as goal

-- the entries searched so far, from the end, have no date that can be inherited
abbrev pub invariant-indices : goal.invariant-indices
invariant-indices l = record {
  none : last_date (map (at_index (texts_of_entries l.entries)) (drop (length l.indices - l.done) l.indices)) ≡ None;
  dates : IsCacheOf l.entries l.dates;
  added : AddsAmong l.indices l.initial.dates l.dates;
}
