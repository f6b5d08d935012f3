use Rattle.std.proofs.Common.{◌∙◌, ◌++◌, ◌∷◌, [], ℕ, List, Bor, ap, arith, get_or, map, sym}
use Rattle.std.specs.Prelude.{filter}
use Rattle.bib_queries.specs.Needed.{is_listed}
use Rattle.bibkit_core.proofs.ConditionFacts.{filter_step}
use Rattle.bibkit_core.proofs.conditions.common_keys.Goals as goal

pub wanted-preserved : goal.wanted-preserved
wanted-preserved c =
    let nobody : Bor (List ℕ) = record { ref_ptr = (0, 0); now = [] } in
    let keys = map (λ key. key.now) c.args.keys.now in
    let key = get_or c.args.wanted.now c.wanted.key-index nobody in
    c.in_ok-push_common.ensures keys c.in_ok-set.ensures
    ∙ ap (λ l. l ++ filter (is_listed keys) (key.now ∷ [])) c.wanted.invariant
    ∙ sym (filter_step (λ k. k.now) (is_listed keys) c.args.wanted.now c.wanted.key-index nobody (omega arith))
