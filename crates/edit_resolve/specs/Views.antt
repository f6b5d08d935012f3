-- Meaning: words of public contracts.
-- The fields that entries lack, as values of the code represent them.
use Rattle.std.specs.Prelude.{List, map}
use Rattle.bib_queries.specs.Texts.{text_list}
use Rattle.bib_syntax.specs.Views.{entry_reading_of, field_of}
use Rattle.edit_resolve.specs.Uninherited.{Uninherited}
use Rattle.edit_resolve.specs.declared.uninherited.UninheritedFields.{UninheritedFields}

-- the fields of a parent that a value of the code represents
abbrev pub uninherited_row : UninheritedFields → Uninherited
uninherited_row u = record {
  entry = entry_reading_of u.entry.now;
  reference = field_of u.reference.now;
  parent = entry_reading_of u.parent.now;
  names = text_list u.names;
}

-- the fields of parents that values of the code represent
abbrev pub uninherited_list : List UninheritedFields → List Uninherited
uninherited_list found = map uninherited_row found
