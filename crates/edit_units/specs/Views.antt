-- Meaning: words of public contracts.
-- The units that values of the code represent.
use Rattle.bib_syntax.specs.Views.{file_of}
use Rattle.edit_units.specs.Units.{UnitReading, UnitTexts}
use Rattle.edit_units.specs.declared.texts.UnitText.{UnitText}
use Rattle.edit_units.specs.declared.units.Unit.{Unit}

-- the reading of a unit
abbrev pub unit_reading_of : Unit → UnitReading
unit_reading_of u = record { start = u.span.start; end = u.span.end; blocks = u.blocks.items; says = file_of u.raw }

-- the texts of a unit
abbrev pub unit_texts_of : UnitText → UnitTexts
unit_texts_of u = record { space = u.space.now; text = u.text.now }
