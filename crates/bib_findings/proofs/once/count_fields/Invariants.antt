use Rattle.std.proofs.Common.{take}
use Rattle.std.specs.BTreeMap.{get_by_text}
use Rattle.bib_findings.specs.Met.{AreFieldNames}
use Rattle.bib_findings.specs.Counted.{CountsMore, HasIndices, counted_texts}
use Rattle.bib_findings.proofs.OnceFacts.{once_of}
use Rattle.bib_findings.proofs.once.count_fields.Given as goal

-- the cache is correct, those names of the first fields are counted, and each has the index of its count
abbrev pub invariant-fields : goal.invariant-fields
invariant-fields l = record {
  met : AreFieldNames (get_by_text l.met);
  indices : HasIndices (get_by_text l.indices) (counted_texts l.counted.items);
  counted : CountsMore (once_of l.said.v.kind.v.now (take l.field-index l.said.v.fields.items)) l.initial.counted.items l.counted.items;
}
