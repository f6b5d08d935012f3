use Rattle.std.proofs.Common.{◌≡◌, drop, map}
use Rattle.json.specs.Value.{value_view}
use Rattle.bib_from_csl.specs.GivenItems.{members_read}
use Rattle.bib_from_csl.proofs.ReadingFacts.{after_fields}
use Rattle.bib_from_csl.proofs.reading.fields_of.Given as goal

abbrev pub invariant-members : goal.invariant-members
invariant-members l =
    after_fields l.fields (members_read l.keeps_case l.id (map (λ m. (m.0.now, value_view m.1)) (drop l.member-index l.members)))
    ≡ members_read l.keeps_case l.id (map (λ m. (m.0.now, value_view m.1)) l.members)
