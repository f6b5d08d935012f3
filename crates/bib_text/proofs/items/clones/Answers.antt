use Rattle.std.proofs.Common.{arith}
use Rattle.std.proofs.lemmas.List.Elements.{all_zip_more}
use Rattle.bib_text.proofs.items.clones.Goals as goal

pub elements-preserved : goal.elements-preserved
elements-preserved g c =
    rw c.in_ok-push.ensures.items
    (all_zip_more g.T.Clone.is_clone c.args.elements.now c.elements.copies.items c.elements.element-index _
    c.in_ok-clone.field-0 (omega arith) c.element-item.is c.elements.invariant c.in_ok-clone.ensures.cases)
