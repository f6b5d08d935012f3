use Rattle.std.proofs.Common.{◌≡◌, drop}
use Rattle.bib_abbreviations.specs.Abbreviations.{given_by}
use Rattle.bib_file_entries.proofs.KeepingFacts.{KeptSoFar}
use Rattle.bib_file_entries.proofs.keeping.keep_fields.Given as goal

-- the fields so far are kept or left out
abbrev pub invariant-fields : goal.invariant-fields
invariant-fields l = record {
  same : l.reader ≡ l.fn.reader;
  kept : KeptSoFar (given_by l.fn.reader) l.fields (drop l.field-index l.fields) l.fn.errors.items l.errors.items l.pairs.items;
}
