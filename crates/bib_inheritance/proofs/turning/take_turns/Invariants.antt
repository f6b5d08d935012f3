use Rattle.std.proofs.Common.{◌≡◌, take}
use Rattle.bib_collections.specs.Rows.{rows}
use Rattle.bib_inheritance.specs.Turning.{IsCacheOf}
use Rattle.bib_inheritance.proofs.DateFacts.{AreAfter}
use Rattle.bib_inheritance.proofs.TurnFacts.{HaveTurned}
use Rattle.bib_inheritance.proofs.turning.take_turns.Given as goal

-- the entries at the indices so far are resolved, and only their dates are cached
abbrev pub invariant-order : goal.invariant-order
invariant-order l = record {
  turns : l.turns.items ≡ take l.index-index l.order;
  turned : HaveTurned (rows l.refs) l.order l.initial.entries l.entries l.index-index;
  dates : IsCacheOf l.entries l.dates;
  following : AreAfter (take l.index-index l.order) l.dates;
}
