use Rattle.std.proofs.Common.{sym}
use Rattle.bib_syntax.specs.Views.{entry_reading_of}
use Rattle.edit_entries.proofs.PositionFacts.{slice_get-map}
use Rattle.edit_entries.proofs.lookup.entry_with.Goals as goal

pub returns-in-Some : goal.returns-in-Some
returns-in-Some c = (
  c.in-Some.index,
  sym c.in-Some.ensures.is,
  slice_get-map entry_reading_of c.args.entries.now c.in-Some.index c.index-entries-index.result
      c.in-Some.ensures.bound c.index-entries-index.is,
)
