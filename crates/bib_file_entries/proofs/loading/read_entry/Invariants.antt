use Rattle.std.proofs.Common.{◌≡◌, take}
use Rattle.std.specs.List.{AllZip}
use Rattle.bib_abbreviations.specs.Abbreviations.{given_by}
use Rattle.bib_file_entries.specs.Loading.{IsRead}
use Rattle.bib_file_entries.proofs.loading.read_entry.Given as goal

-- the fields so far are parsed
abbrev pub invariant-fields : goal.invariant-fields
invariant-fields l = record {
  fields : l.field-items ≡ l.raw.fields.items;
  same : l.reader ≡ l.fn.reader;
  read : AllZip (IsRead (given_by l.fn.reader)) (take l.field-index l.field-items) l.pairs.items;
}
