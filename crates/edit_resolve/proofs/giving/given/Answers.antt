use Rattle.std.proofs.Common.{◌∙◌, ap, get_or, sym, take}
use Rattle.std.specs.List.{find}
use Rattle.std.specs.Option.{option_or}
use Rattle.std.proofs.lemmas.List.Folds.{find-append}
use Rattle.edit_resolve.specs.Resolved.{given_fields, given_fields_by, is_read_as}
use Rattle.edit_resolve.specs.Working.{fields_at}
use Rattle.edit_resolve.specs.declared.parents.Link.TheVariants.{Crossref}
use Rattle.edit_resolve.specs.declared.parents.Parent.{Parent}
use Rattle.edit_resolve.proofs.GivenFacts.{parents_give}
use Rattle.edit_resolve.proofs.giving.given.Goals as goal

pub parents-preserved : goal.parents-preserved
parents-preserved c = λ name.
    let nobody : Parent = record { link = Crossref; index = 0 } in
    let i = c.parents.parent-index in
    let ps = c.args.parents.now in
    let fields = fields_at c.args.found.now in
    let p : Parent = get_or ps i nobody in
    c.in_ok-give_parent.ensures name
    ∙ ap (λ o. option_or o (find (is_read_as name) (given_fields p.link (fields p.index)))) (c.parents.invariant name)
    ∙ sym (find-append (is_read_as name) (given_fields_by fields (take i ps)) (given_fields p.link (fields p.index)))
    ∙ ap (find (is_read_as name)) (parents_give fields ps i nobody c.parents-test.true)
