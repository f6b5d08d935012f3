use Rattle.std.proofs.Common.{◌≡◌, ◌++◌, drop, map}
use Rattle.edit_units.specs.Cuts.{AreUnitsCut}
use Rattle.edit_units.specs.Units.{end_of_units, texts_from}
use Rattle.edit_units.specs.Views.{unit_reading_of, unit_texts_of}
use Rattle.edit_units.proofs.texts.unit_texts.Given as goal

-- the texts so far, and what is known of the units that are left
abbrev pub invariant-units : goal.invariant-units
invariant-units l = record {
  texts : map unit_texts_of l.texts.items ++ texts_from l.text l.at (map unit_reading_of (drop l.unit-index l.units))
      ≡ texts_from l.text 0 (map unit_reading_of l.units);
  cuts : AreUnitsCut l.text l.at (map unit_reading_of (drop l.unit-index l.units));
  ends : end_of_units l.at (map unit_reading_of (drop l.unit-index l.units)) ≡ end_of_units 0 (map unit_reading_of l.units);
}
