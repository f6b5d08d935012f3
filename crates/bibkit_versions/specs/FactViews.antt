-- Machinery: words of private contracts.
-- The parts of changes that values of the code represent.
use Rattle.std.specs.Prelude.{option_map}
use Rattle.std.specs.String.{string_bytes}
use Rattle.bibkit_versions.specs.Facts.{FactsReading}
use Rattle.bibkit_versions.specs.declared.facts.Facts.{Facts}

-- the parts of a change
abbrev pub facts_view : Facts → FactsReading
facts_view f = record {
  field = option_map string_bytes f.field;
  old = option_map string_bytes f.old;
  new = option_map string_bytes f.new;
}
