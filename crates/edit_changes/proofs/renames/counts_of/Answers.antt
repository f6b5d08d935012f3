use Rattle.std.proofs.Common.{◌≡◌, ◌+◌, ◌∷◌, ◌++◌, [], ap, sym, subst, take, unwrap_or, ◌∙◌}
use Rattle.std.proofs.lemmas.List.{take_more}
use Rattle.std.specs.FinMap.{get, insert}
use Rattle.edit_versions.proofs.NameFacts.{counts_more, counts_none}
use Rattle.edit_changes.specs.Counts.{AreCounts}
use Rattle.edit_changes.proofs.renames.counts_of.Goals as goal

pub texts-init : goal.texts-init
texts-init c = counts_none c.new-counts.result c.new-counts.ensures

pub texts-preserved : goal.texts-preserved
texts-preserved c =
    let own = c.text-item.result in
    let number = c.unwrap_or-number.result in
    let copied = c.in_ok-own.ensures ∙ c.as_str.ensures in
    let number_is : number ≡ unwrap_or (get c.texts.counts own) 0 =
    c.unwrap_or-number.ensures ∙ ap (λ o. unwrap_or o 0) c.get.ensures
    ∙ ap (λ n. unwrap_or (get c.texts.counts n) 0) (c.as_str-in-texts.ensures ∙ copied) in
    let more = take_more c.args.texts.now c.texts.text-index own c.texts-test.true in
    subst (λ l. AreCounts l c.claim.new.self)
    (sym (more ∙ ap (λ x. take c.texts.text-index c.args.texts.now ++ x ∷ []) (sym c.text-item.is)))
    (counts_more (take c.texts.text-index c.args.texts.now) c.texts.counts c.claim.new.self own number c.texts.invariant number_is
    (c.in_ok-claim.ensures.claimed ∙ ap (λ n. insert c.texts.counts n (number + 1)) copied))
