use Rattle.std.proofs.Common.{◌≡◌, List, ℕ, take}
use Rattle.std.specs.List.{flat_map}
use Rattle.bib_tables.specs.Requirements.{texts}
use Rattle.bib_inheritance.specs.Gathering.{gathered_text, offer_among}
use Rattle.bib_inheritance.specs.EntryTexts.{first_some, texts_of_reference}
use Rattle.bib_inheritance.proofs.gathering.gather_groups.Given as goal

-- the fields collected for the groups so far
abbrev pub invariant-groups : goal.invariant-groups
invariant-groups l = (q : List ℕ)
    → gathered_text l.gathered q
    ≡ first_some
    (offer_among (flat_map (λ group. texts group.now) (take l.group-index l.groups))
    (texts_of_reference l.reference) q) (gathered_text l.initial.gathered q)
