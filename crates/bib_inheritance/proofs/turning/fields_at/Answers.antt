use Rattle.std.proofs.Common.{◌<◌, length, sym, subst}
use Rattle.std.specs.List.{All}
use Rattle.bib_inheritance.proofs.TurnFacts.{all_below}
use Rattle.bib_inheritance.proofs.turning.fields_at.Goals as goal

pub references_of-requires : goal.references_of-requires
references_of-requires c =
    subst (λ l. All (λ r. r < length c.args.entries.now) l) (sym c.deref.ensures.value)
    (all_below c.args.indices.now c.in_ok-first.first.items c.requires.references c.in_ok-first.ensures.among)
