use Rattle.std.proofs.Common.{◌∙◌, ◌∷◌, [], ap, map, sym}
use Rattle.std.proofs.lemmas.List.{map-append}
use Rattle.bib_queries.specs.Needed.{is_listed}
use Rattle.bibkit_core.proofs.ConditionFacts.{one_fails, one_passes}
use Rattle.bibkit_core.proofs.conditions.push_common.Goals as goal

pub returns-in_ok-push : goal.returns-in_ok-push
returns-in_ok-push c = λ keys same.
    ap (map (λ k. k.now)) c.in_ok-push.ensures.items ∙ map-append (λ k. k.now) c.args.common.now.items (c.args.key ∷ [])
    ∙ one_passes (is_listed keys) (map (λ k. k.now) c.args.common.now.items) c.args.key.now
    (sym (same c.args.key.now) ∙ sym c.contains.ensures ∙ c.if-contains.true)

pub returns-else-contains : goal.returns-else-contains
returns-else-contains c = λ keys same.
    one_fails (is_listed keys) (map (λ k. k.now) c.args.common.now.items) c.args.key.now
    (sym (same c.args.key.now) ∙ sym c.contains.ensures ∙ c.if-contains.false)
