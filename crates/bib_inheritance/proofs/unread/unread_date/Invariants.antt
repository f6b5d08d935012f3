use Rattle.std.proofs.Common.{◌≡◌, length, ℕ, ◌<◌, false}
use Rattle.bib_collections.specs.Rows.{rows}
use Rattle.bib_inheritance.specs.Resolving.{texts_of_entries}
use Rattle.bib_inheritance.specs.Turning.{IsCacheOf, is_unread_at}
use Rattle.bib_inheritance.proofs.unread.unread_date.Given as goal

-- no entry so far that is flagged refers to an entry with an unreadable date
abbrev pub invariant-entries : goal.invariant-entries
invariant-entries l = record {
  read : (other : ℕ) → other < l.index → is_unread_at l.looks (rows l.refs) (texts_of_entries l.entries) other ≡ false;
  dates : IsCacheOf l.entries l.dates;
}
