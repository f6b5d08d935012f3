use Rattle.std.proofs.Common.{ℕ, ◌<◌, length, subst, sym}
use Rattle.std.specs.List.{All}
use Rattle.bib_findings.specs.Seen.{stored_indices}
use Rattle.bib_findings.proofs.duplicates.alike_by.Goals as goal

pub first_alike-requires : goal.first_alike-requires
first_alike-requires c =
    subst (All (λ (index : ℕ). index < length c.args.said.now)) (sym c.deref.ensures.value)
    (subst (λ o. All (λ (index : ℕ). index < length c.args.said.now) (stored_indices o)) (sym c.in-Some.ensures.value)
    (c.requires c.args.identity.now))
