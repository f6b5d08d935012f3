use Rattle.std.proofs.Common.{ap, sym, ◌∙◌, is_none, string_bytes}
use Rattle.std.specs.FinMap.{get, insert}
use Rattle.bib_collections.proofs.ClaimsFacts.{get-text_pairs, inserted_text, is_none_by}
use Rattle.bib_collections.proofs.claims.Claims.claim_new.Goals as goal

pub returns-clause-new : goal.returns-clause-new
returns-clause-new c =
    is_none_by _ _ c.is_none.ensures
    ∙ ap is_none (c.in_ok-had.ensures.old
    ∙ sym (get-text_pairs c.self.inside.indices (string_bytes c.into_string.result))
    ∙ ap (λ m. get m (string_bytes c.into_string.result)) c.self.view_is
    ∙ ap (λ k. get c.args.self.now k) c.into_string.ensures)

pub returns-clause-claimed : goal.returns-clause-claimed
returns-clause-claimed c =
    inserted_text c.self.inside.indices c.insert.new.self (string_bytes c.into_string.result) c.args.index c.in_ok-had.ensures.updates
    ∙ ap (λ m. insert m (string_bytes c.into_string.result) c.args.index) c.self.view_is
    ∙ ap (λ k. insert c.args.self.now k c.args.index) c.into_string.ensures
