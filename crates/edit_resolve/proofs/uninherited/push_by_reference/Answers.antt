use Rattle.std.proofs.Common.{◌≡◌, ◌∙◌, ◌<◌, ◌++◌, ap, length, sym, subst}
use Rattle.std.specs.BTreeSet.{contains_text}
use Rattle.std.specs.List.{All, flat_map}
use Rattle.std.specs.Prelude.{OnOk}
use Rattle.std.proofs.lemmas.List.{length-map}
use Rattle.std.proofs.lemmas.List.Elements.{All-from_recursion}
use Rattle.bib_syntax.specs.Views.{entry_reading_of, field_of}
use Rattle.edit_resolve.specs.Parents.{entry_at}
use Rattle.edit_resolve.specs.Uninherited.{lacking_names, reference_parents, uninherited_of}
use Rattle.edit_resolve.specs.Views.{uninherited_list}
use Rattle.edit_resolve.specs.Working.{fields_at, readings}
use Rattle.edit_resolve.specs.declared.parents.Parent.{Parent}
use Rattle.edit_resolve.proofs.ParentFacts.{references_within}
use Rattle.edit_resolve.proofs.uninherited.push_by_reference.Goals as goal

pub push_of_parents-requires-clause-within : goal.push_of_parents-requires-clause-within
push_of_parents-requires-clause-within c =
    let es = readings c.args.file.now in
    let f = field_of c.args.reference.now in
    let are : c.deref.result.now ≡ reference_parents es f = c.deref.ensures.value ∙ c.in_ok-parents.ensures in
    let count : length c.args.fields.now ≡ length es =
    c.requires.as_many ∙ sym (length-map c.args.file.now.entries.now entry_reading_of) in
    subst (λ n. All (λ (p : Parent). p.index < n) c.deref.result.now) (sym count)
    (subst (λ l. All (λ (p : Parent). p.index < length es) l) (sym are)
    (All-from_recursion (λ (p : Parent). p.index < length es) (reference_parents es f) (references_within es f)))

pub returns : goal.returns
returns c =
    let es = readings c.args.file.now in
    let e = entry_reading_of c.args.child.now.entry.now in
    let f = field_of c.args.reference.now in
    subst
    (λ ps.
    OnOk c.push_of_parents.result
    (uninherited_list c.push_of_parents.new.found.items
    ≡ uninherited_list c.args.found.now.items
    ++ flat_map
    (λ p.
    uninherited_of e f (entry_at es p.index)
    (lacking_names es (fields_at c.args.fields.now) (contains_text c.args.child.now.names) e p)) ps))
    (c.deref.ensures.value ∙ c.in_ok-parents.ensures) c.push_of_parents.ensures
