use Rattle.std.proofs.Common.{ap, ◌∙◌, ◌++◌, ◌∷◌, [], ◌==◌, ◌&&◌, not, cond, length}
use Rattle.std.specs.List.{list_any}
use Rattle.bib_syntax.specs.Views.{entry_reading_of}
use Rattle.bib_findings.specs.ParentOrder.{early_finding, is_key_of}
use Rattle.bib_findings.proofs.parent_order.add_if_early.Goals as goal

pub returns : goal.returns
returns c = λ earlier are.
    let said = entry_reading_of c.args.said.now in
    let old = c.args.found.now.items in
    c.in_ok-add_if.ensures
    ∙ ap (λ b. old ++ cond b (early_finding said c.parent_key-parent.result.now ∷ []) []) (c.in_ok-is_early.ensures earlier are)
    ∙ ap (λ p. old ++ cond (not (length p == 0) && list_any (is_key_of p) earlier) (early_finding said p ∷ []) [])
    c.parent_key-parent.ensures
