use Rattle.std.proofs.Common.{◌++◌, ap, map, refl}
use Rattle.edit_units.specs.Units.{texts_from}
use Rattle.edit_units.specs.Views.{unit_reading_of, unit_texts_of}
use Rattle.edit_units.proofs.CutFacts.{units_cut}
use Rattle.edit_units.proofs.texts.unit_texts.Goals as goal

pub units-init : goal.units-init
units-init c = record {
  texts = ap
      (λ texts. map unit_texts_of texts ++ texts_from c.args.text.now 0 (map unit_reading_of c.args.units.now))
      c.new-texts.ensures.items;
  cuts = units_cut c.args.text.now (map unit_reading_of c.args.units.now) c.requires;
  ends = refl;
}
