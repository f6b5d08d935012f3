use Rattle.std.proofs.lemmas.Grind.{common_steps}
use Rattle.std.proofs.Common.{[], ◌≡◌, ◌++◌, sym, ap, ◌∙◌, append-nil, arith}
use Rattle.bib_collections.specs.Claims.{text_pairs}
use Rattle.bib_collections.specs.Sorted.{map_of}
use Rattle.bib_collections.proofs.ClaimsFacts.{sorted_texts, map_of_texts}
use Rattle.bib_collections.proofs.claims.Claims.into_names.Goals as goal

pub from_sorted-requires : goal.from_sorted-requires
from_sorted-requires c =
    let none : text_pairs c.indices.name-iterator ≡ [] = ap text_pairs c.in-None.ensures.steps.0 in
    let all : c.indices.pairs.items ≡ text_pairs c.self.inside.indices.entries =
    sym (append-nil c.indices.pairs.items) ∙ ap (λ l. c.indices.pairs.items ++ l) (sym none) ∙ c.indices.invariant
    ∙ ap text_pairs c.into_iter-name-iterator.ensures.into_iter_gives.0 in
    rw all (sorted_texts c.self.inside.indices c.into_iter-name-iterator.ensures.into_iter_gives.5)

pub returns : goal.returns
returns c =
    let none : text_pairs c.indices.name-iterator ≡ [] = ap text_pairs c.in-None.ensures.steps.0 in
    let all : c.indices.pairs.items ≡ text_pairs c.self.inside.indices.entries =
    sym (append-nil c.indices.pairs.items) ∙ ap (λ l. c.indices.pairs.items ++ l) (sym none) ∙ c.indices.invariant
    ∙ ap text_pairs c.into_iter-name-iterator.ensures.into_iter_gives.0 in
    c.from_sorted.ensures ∙ ap map_of all
    ∙ map_of_texts c.self.inside.indices c.into_iter-name-iterator.ensures.into_iter_gives.5 ∙ c.self.view_is

pub indices-preserved : goal.indices-preserved
indices-preserved c = grind (arith, common_steps)
