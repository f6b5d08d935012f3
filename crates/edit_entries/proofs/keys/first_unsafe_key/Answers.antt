use Rattle.std.proofs.Common.{refl, map, arith}
use Rattle.std.proofs.lemmas.List.{length-map}
use Rattle.bib_syntax.specs.Views.{entry_reading_of}
use Rattle.edit_entries.specs.NewNames.{CanBeNewKey}
use Rattle.edit_entries.proofs.PositionFacts.{slice_get-map}
use Rattle.edit_entries.proofs.TakenFacts.{each_more, within_of}
use Rattle.edit_entries.proofs.keys.first_unsafe_key.Goals as goal

pub returns-then-not-can_be_new_key : goal.returns-then-not-can_be_new_key
returns-then-not-can_be_new_key c = record {
  index = c.entries.entry-index;
  entry = entry_reading_of c.entry-item.result;
  here = slice_get-map entry_reading_of c.args.entries.now c.entries.entry-index c.entry-item.result c.entries-test.true c.entry-item.is;
  is = refl;
  cant = c.if-not-can_be_new_key.ensures;
  before = c.entries.invariant;
}

pub entries-preserved : goal.entries-preserved
entries-preserved c =
    each_more (λ j e. CanBeNewKey e.key.text) entry_reading_of c.args.entries.now c.entries.entry-index c.entry-item.result
    c.entries-test.true c.entry-item.is c.entries.invariant c.if-not-can_be_new_key.ensures

pub returns : goal.returns
returns c = λ k e here.
    let within = within_of (map entry_reading_of c.args.entries.now) k e here in
    c.entries.invariant k e (omega (arith, within, length-map c.args.entries.now entry_reading_of)) here
