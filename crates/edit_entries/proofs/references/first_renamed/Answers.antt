use Rattle.std.proofs.Common.{[], ◌∷◌, length, map, Some, sym, ap, ◌∙◌, lit<}
use Rattle.std.specs.List.{find}
use Rattle.std.specs.Option.{option_map}
use Rattle.std.specs.Str.{trim}
use Rattle.std.proofs.lemmas.Iterator.Consumers.{YieldsList-end, YieldsList-so_far, YieldsList-turn}
use Rattle.std.proofs.lemmas.Iterator.Splits.{YieldsList-from_str_split}
use Rattle.std.proofs.lemmas.List.{map-append}
use Rattle.edit_entries.specs.NewKeys.{name_for}
use Rattle.edit_entries.specs.References.{elements_of, is_renamed}
use Rattle.edit_entries.proofs.ReferenceFacts.{found_at, none_found}
use Rattle.edit_entries.proofs.references.first_renamed.Goals as goal

pub returns-then-branch : goal.returns-then-branch
returns-then-branch c =
    let road = YieldsList-from_str_split 44 c.args.list.now (lit< tt) (cc) (cc) (cc) in
    let far = YieldsList-so_far road c.elements.yielded _ c.elements.yielded_by in
    let turn =
    YieldsList-turn road c.elements.yielded _ c.elements.yielded_by _ _ c.in-Some.element c.in-Some.is c.next.ensures.steps in
    let test = is_renamed (name_for c.args.names.now c.args.field.now) in
    ap Some c.trim.ensures.trim
    ∙ ap (option_map trim)
    (sym
    (found_at test (elements_of c.args.list.now) (length c.elements.yielded) c.in-Some.element.now turn.0 turn.1
    (ap (find test) (sym far) ∙ c.elements.invariant) (sym c.in_ok-is_renamed.ensures ∙ c.if-branch.true)))

pub elements-preserved : goal.elements-preserved
elements-preserved c =
    let test = is_renamed (name_for c.args.names.now c.args.field.now) in
    ap (find test) (map-append (λ p. p.now) c.elements.yielded (c.in-Some.element ∷ []))
    ∙ none_found test (map (λ p. p.now) c.elements.yielded) c.in-Some.element.now c.elements.invariant
    (sym c.in_ok-is_renamed.ensures ∙ c.if-branch.false)

pub returns : goal.returns
returns c =
    let all =
    (YieldsList-end (YieldsList-from_str_split 44 c.args.list.now (lit< tt) (cc) (cc) (cc)) c.elements.yielded _
    c.elements.yielded_by _ _ c.in-None.is c.next.ensures.steps).0
    in
    ap (option_map trim)
    (sym c.elements.invariant ∙ ap (find (is_renamed (name_for c.args.names.now c.args.field.now))) all)
