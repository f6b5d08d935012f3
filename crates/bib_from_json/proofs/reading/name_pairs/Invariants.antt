use Rattle.std.proofs.Common.{◌≡◌, map, take}
use Rattle.bib_from_json.specs.GivenEntries.{name_pair}
use Rattle.bib_from_json.proofs.reading.name_pairs.Given as goal

abbrev pub invariant-names : goal.invariant-names
invariant-names l = l.pairs.items ≡ map name_pair (take l.field-index l.fields)
