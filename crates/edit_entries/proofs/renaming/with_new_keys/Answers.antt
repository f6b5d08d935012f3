use Rattle.std.proofs.Common.{map, sym, ap, ◌∙◌, subst}
use Rattle.std.specs.List.{AllByRecursion}
use Rattle.std.proofs.lemmas.Result.{err_from_is_err_and}
use Rattle.bib_syntax.specs.Views.{entry_reading_of}
use Rattle.edit_entries.specs.EditList.{AreEditsInOrder, edit_of}
use Rattle.edit_entries.specs.Edits.{edited_all}
use Rattle.edit_entries.specs.NewKeys.{key_for, name_for}
use Rattle.edit_entries.specs.References.{CanBeMade, change_edit, key_renaming, renaming}
use Rattle.edit_entries.specs.Stretches.{AreChangesInOrder, EndsInWhite}
use Rattle.edit_entries.proofs.ChangeListFacts.{in_order, refused_more}
use Rattle.edit_entries.proofs.NameFacts.{renaming_by}
use Rattle.edit_entries.proofs.renaming.with_new_keys.Goals as goal

pub renaming_edits-requires-clause-keys : goal.renaming_edits-requires-clause-keys
renaming_edits-requires-clause-keys c = λ k new below gets.
    c.requires.keys k new below (sym (ap (λ keys. key_for keys k) c.in_ok-names.ensures.keys) ∙ gets)

pub returns-in_err-edits-clause-refused : goal.returns-in_err-edits-clause-refused
returns-in_err-edits-clause-refused c =
    let p = err_from_is_err_and c.from_residual-in_err-edits.result c.from_residual-in_err-edits.ensures.1 in
    let entries = map entry_reading_of c.args.entries.now in
    let same = renaming_by c.in_ok-names.names c.args.keys entries c.in_ok-names.ensures.keys c.in_ok-names.ensures.names in
    rw (p.1, p.2) (refused_more
    (AllByRecursion CanBeMade (renaming (name_for c.in_ok-names.names) (key_for c.in_ok-names.names.keys) 0 entries))
    (AllByRecursion CanBeMade (key_renaming (key_for c.args.keys) entries)) _
    (subst (AllByRecursion CanBeMade) (sym same)) c.in_err-edits.ensures.refused)

pub edited_all-requires : goal.edited_all-requires
edited_all-requires c =
    let entries = map entry_reading_of c.args.entries.now in
    let changes = renaming (name_for c.in_ok-names.names) (key_for c.in_ok-names.names.keys) 0 entries in
    let same = renaming_by c.in_ok-names.names c.args.keys entries c.in_ok-names.ensures.keys c.in_ok-names.ensures.names in
    subst (AreEditsInOrder c.args.text.now 0) (sym (ap (map edit_of) c.deref.ensures.value ∙ c.in_ok-edits.ensures.edits))
    (in_order c.args.text.now 0 changes (subst (AreChangesInOrder c.args.text.now 0) (sym same) c.requires.apart)
    c.in_ok-edits.ensures.white)

pub returns-clause-text : goal.returns-clause-text
returns-clause-text c =
    let entries = map entry_reading_of c.args.entries.now in
    let same = renaming_by c.in_ok-names.names c.args.keys entries c.in_ok-names.ensures.keys c.in_ok-names.ensures.names in
    c.in_ok-edited_all.ensures
    ∙ ap (λ l. edited_all (map edit_of l) c.args.text.now) c.deref.ensures.value
    ∙ ap (λ l. edited_all l c.args.text.now) (c.in_ok-edits.ensures.edits ∙ ap (map (change_edit c.args.text.now)) same)

pub returns-clause-can : goal.returns-clause-can
returns-clause-can c =
    subst (AllByRecursion CanBeMade)
    (renaming_by c.in_ok-names.names c.args.keys (map entry_reading_of c.args.entries.now) c.in_ok-names.ensures.keys
    c.in_ok-names.ensures.names) c.in_ok-edits.ensures.can

pub returns-clause-white : goal.returns-clause-white
returns-clause-white c =
    subst (AllByRecursion (EndsInWhite c.args.text.now))
    (renaming_by c.in_ok-names.names c.args.keys (map entry_reading_of c.args.entries.now) c.in_ok-names.ensures.keys
    c.in_ok-names.ensures.names) c.in_ok-edits.ensures.white
