use Rattle.std.proofs.Common.{[], ◌∷◌, map, ap, ◌∙◌, lit<}
use Rattle.std.specs.List.{join_by}
use Rattle.std.specs.String.{string_bytes}
use Rattle.std.proofs.lemmas.Result.{IfOk-weaker}
use Rattle.std.proofs.lemmas.Iterator.Consumers.{YieldsList-end}
use Rattle.std.proofs.lemmas.Iterator.Splits.{YieldsList-from_str_split}
use Rattle.edit_entries.specs.NewKeys.{name_for}
use Rattle.edit_entries.specs.References.{elements_of, renamed_element}
use Rattle.edit_entries.proofs.ReferenceFacts.{join_read}
use Rattle.edit_entries.proofs.references.renamed_list.Goals as goal

pub returns : goal.returns
returns c =
    let all =
    (YieldsList-end (YieldsList-from_str_split 44 c.args.list.now (lit< tt) (cc) (cc) (cc)) c.elements.yielded _
    c.elements.yielded_by _ _ c.in-None.is c.next.ensures.steps).0
    in
    let parts = c.elements.invariant ∙ ap (map (renamed_element (name_for c.args.names.now c.args.field.now))) all in
    IfOk-weaker c.join.result _ _
    (λ text is.
    is ∙ ap (join_by string_bytes (44 ∷ [])) c.deref.ensures.value
    ∙ join_read string_bytes (renamed_element (name_for c.args.names.now c.args.field.now)) (44 ∷ [])
    c.elements.parts.items (elements_of c.args.list.now) parts) c.join.ensures.ok
