use Rattle.std.proofs.Common.{◌≡◌, true, length}
use Rattle.bib_collections.specs.Rows.{rows}
use Rattle.bib_inheritance.specs.Cutting.{IsUnreadError}
use Rattle.bib_inheritance.specs.Recovered.{EachReported}
use Rattle.bib_inheritance.specs.Resolving.{texts_of_entries}
use Rattle.bib_inheritance.specs.Turning.{IsCacheOf, is_unread_at}
use Rattle.bib_inheritance.proofs.recovering.date_errors.Given as goal

-- the errors so far are those of the entries so far
abbrev pub invariant-entries : goal.invariant-entries
invariant-entries l = record {
  reported : EachReported (λ index. is_unread_at l.looks (rows l.refs) (texts_of_entries l.entries) index ≡ true)
      (IsUnreadError (rows l.refs) l.entries) l.index l.errors.items;
  dates : IsCacheOf l.entries l.dates;
}
