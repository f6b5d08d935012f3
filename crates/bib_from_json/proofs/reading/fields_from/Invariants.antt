use Rattle.std.proofs.Common.{◌≡◌, drop, map}
use Rattle.json.specs.Value.{value_view}
use Rattle.bib_from_json.specs.GivenEntries.{fields_from}
use Rattle.bib_from_json.proofs.ReadingFacts.{after}
use Rattle.bib_from_json.proofs.reading.fields_from.Given as goal

abbrev pub invariant-fields : goal.invariant-fields
invariant-fields l =
    after l.fields (fields_from l.key (map (λ m. (m.0.now, value_view m.1)) (drop l.member-index l.members)))
    ≡ fields_from l.key (map (λ m. (m.0.now, value_view m.1)) l.members)
