use Rattle.std.proofs.Common.{◌≡◌, ◌++◌, ◌∷◌, [], ◌∙◌, ap, sym, subst, is_some, rules}
use Rattle.std.proofs.lemmas.List.Elements.{same_from_all_zip}
use Rattle.bib_inheritance.proofs.GatheredFacts.{AreCopied, copied_more, copied_skip, copied_some}
use Rattle.bib_inheritance.proofs.gathering.copies.Goals as goal

pub gathered-preserved-then-is_some : goal.gathered-preserved-then-is_some
gathered-preserved-then-is_some c =
    copied_skip c.args.own.now c.into_iter-name-iterator.result c.next.new.self c.gathered.name-iterator c.in-Some.name
    c.in-Some.chunks c.gathered.copies.items c.in-Some.ensures.steps
    (ap is_some (sym c.get.ensures) ∙ copied_some c.get.result ∙ sym c.is_some.ensures ∙ c.if-is_some.true) c.gathered.invariant

pub gathered-preserved : goal.gathered-preserved
gathered-preserved c =
    let chunks = c.in-Some.chunks.now in
    let same : c.in_ok-clone.field-0 ≡ chunks =
    same_from_all_zip _ chunks c.in_ok-clone.field-0 c.in_ok-clone.ensures.cases (λ s t r. search rules) in
    let pushed : c.push.new.self.items ≡ c.gathered.copies.items ++ (c.in-Some.name.now, c.in_ok-clone.field-0) ∷ [] =
    c.in_ok-push.ensures.items ∙ ap (λ n. c.gathered.copies.items ++ (n, c.in_ok-clone.field-0) ∷ []) c.in_ok-from_str.ensures
    in
    subst (AreCopied c.args.own.now c.into_iter-name-iterator.result c.next.new.self) (sym pushed)
    (copied_more c.args.own.now c.into_iter-name-iterator.result c.next.new.self c.gathered.name-iterator c.in-Some.name
    c.in-Some.chunks c.in_ok-clone.field-0 c.gathered.copies.items c.in-Some.ensures.steps
    (ap is_some (sym c.get.ensures) ∙ copied_some c.get.result ∙ sym c.is_some.ensures ∙ c.if-is_some.false) same c.gathered.invariant)
