use Rattle.std.proofs.Common.{ap, ◌∙◌, string_bytes}
use Rattle.std.specs.FinMap.{insert}
use Rattle.bib_collections.proofs.ClaimsFacts.{inserted_text}
use Rattle.bib_collections.proofs.claims.Claims.claim.Goals as goal

pub returns-clause-claimed : goal.returns-clause-claimed
returns-clause-claimed c =
    inserted_text c.self.inside.indices c.insert.new.self (string_bytes c.into_string.result) c.args.index c.in_ok-insert.ensures.updates
    ∙ ap (λ m. insert m (string_bytes c.into_string.result) c.args.index) c.self.view_is
    ∙ ap (λ k. insert c.args.self.now k c.args.index) c.into_string.ensures
