use Rattle.std.proofs.Common.{sym, ap, ◌∙◌}
use Rattle.std.specs.FinMap.{get}
use Rattle.bib_collections.proofs.ClaimsFacts.{get-text_pairs}
use Rattle.bib_collections.proofs.claims.Claims.get.Goals as goal

pub returns : goal.returns
returns c =
    c.copied.ensures ∙ c.get.ensures.value ∙ sym (get-text_pairs c.self.inside.indices c.args.name.now)
    ∙ ap (λ m. get m c.args.name.now) c.self.view_is
