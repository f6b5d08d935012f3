use Rattle.std.proofs.Common.{◌≡◌, ◌++◌, map, take}
use Rattle.std.specs.BTreeMap.{get_by_text}
use Rattle.bib_syntax.specs.Views.{entry_reading_of}
use Rattle.bib_findings.specs.Counted.{ArePartsCounted, HasIndices, counted_texts}
use Rattle.bib_findings.specs.Duplicates.{entries_at}
use Rattle.bib_findings.specs.Met.{AreFieldNames}
use Rattle.bib_findings.specs.Once.{fields_finding, fields_once}
use Rattle.bib_findings.proofs.OnceFacts.{found_of}
use Rattle.bib_findings.proofs.once.add_fields.Given as goal

-- the cache is correct, those names of fields of the first entries are counted, and each has the index of its count
abbrev pub invariant-origins : goal.invariant-origins
invariant-origins l = record {
  met : AreFieldNames (get_by_text l.met);
  indices : HasIndices (get_by_text l.indices) (counted_texts l.counted.items);
  counted : ArePartsCounted l.counted.items (fields_once (entries_at (map entry_reading_of l.said) (take l.index-index l.origins)));
}

-- the findings of the first counts were appended
abbrev pub invariant-counted : goal.invariant-counted
invariant-counted l = l.found.items ≡ l.initial.found.items ++ map (found_of fields_finding) (take l.one-index l.one-items)
