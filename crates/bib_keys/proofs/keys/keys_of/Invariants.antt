use Rattle.std.proofs.Common.{take}
use Rattle.std.specs.BTreeMap.{get_by_text}
use Rattle.bib_keys.specs.Keys.{AreKeys}
use Rattle.bib_keys.proofs.KeyFacts.{AreTaken}
use Rattle.bib_keys.proofs.keys.keys_of.Given as goal

abbrev pub invariant-entries : goal.invariant-entries
invariant-entries l = record {
  taken : AreTaken (get_by_text l.taken) l.keys.items;
  keys : AreKeys l.pattern (take l.entry-index l.entries) l.keys.items;
}
