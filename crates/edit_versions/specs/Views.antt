-- Meaning: words of public contracts.
-- The values of the code as definitions.
use Rattle.std.specs.Prelude.{Option, option_map}
use Rattle.edit_units.specs.Units.{UnitTexts}
use Rattle.edit_units.specs.Views.{unit_texts_of}
use Rattle.edit_units.specs.declared.texts.UnitText.{UnitText}

-- the texts of a unit, if it is there
abbrev pub texts_view : Option UnitText → Option UnitTexts
texts_view found = option_map unit_texts_of found
