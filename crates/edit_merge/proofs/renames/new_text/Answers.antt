use Rattle.std.proofs.Common.{ap, map, subst, sym, ◌∙◌}
use Rattle.std.specs.Prelude.{is_none, option_map}
use Rattle.std.specs.List.{list_all}
use Rattle.std.specs.String.{string_bytes}
use Rattle.std.proofs.lemmas.Result.{err_from_is_err_and}
use Rattle.bib_syntax.specs.Views.{entry_reading_of}
use Rattle.edit_entries.specs.Documents.{IsEdited}
use Rattle.edit_entries.specs.References.{KeysAreRefused, KeysRenamed, given_keys}
use Rattle.edit_merge.specs.RenameViews.{replacement_in}
use Rattle.edit_merge.proofs.RenameFacts.{gets_none, gets_text, refuses_keys}
use Rattle.edit_merge.proofs.renames.new_text.Goals as goal

pub returns-then-are_absent-clause-text : goal.returns-then-are_absent-clause-text
returns-then-are_absent-clause-text c =
    let new = replacement_in c.args.keys.now in
    gets_none c.in_ok-new.new.items new c.args.document.now
    (c.in_ok-new.ensures ∙ ap (λ l. map (λ e. new e.key.text) (map entry_reading_of l)) c.deref.ensures.value
    ∙ ap (λ s. map (λ e. new e.key.text) s.entries) c.raw.ensures.says)
    (sym (c.are_absent.ensures ∙ ap (list_all (λ k. is_none k)) c.deref-2.ensures.value) ∙ c.if-are_absent.true)

pub returns-clause-text : goal.returns-clause-text
returns-clause-text c =
    let new = replacement_in c.args.keys.now in
    gets_text c.in_ok-new.new.items new c.args.document.now _
    (c.in_ok-new.ensures ∙ ap (λ l. map (λ e. new e.key.text) (map entry_reading_of l)) c.deref.ensures.value
    ∙ ap (λ s. map (λ e. new e.key.text) s.entries) c.raw.ensures.says)
    (sym (c.are_absent.ensures ∙ ap (list_all (λ k. is_none k)) c.deref-2.ensures.value) ∙ c.if-are_absent.false)
    (subst (λ l. IsEdited (KeysRenamed c.args.document.now (given_keys l)) (string_bytes c.in_ok-rename_keys.field-0))
    c.deref-3.ensures.value c.in_ok-rename_keys.ensures.renamed)

pub returns-in_err-rename_keys-clause-refused : goal.returns-in_err-rename_keys-clause-refused
returns-in_err-rename_keys-clause-refused c =
    let new = replacement_in c.args.keys.now in
    let d = c.args.document.now in
    let p = err_from_is_err_and c.from_residual-in_err-rename_keys.result c.from_residual-in_err-rename_keys.ensures.1 in
    rw (p.1, p.2) (refuses_keys c.in_ok-new.new.items new d c.in_err-rename_keys.field-0.0
    (c.in_ok-new.ensures ∙ ap (λ l. map (λ e. new e.key.text) (map entry_reading_of l)) c.deref.ensures.value
    ∙ ap (λ s. map (λ e. new e.key.text) s.entries) c.raw.ensures.says)
    (subst (λ l. KeysAreRefused d (given_keys l) c.in_err-rename_keys.field-0.0) c.deref-3.ensures.value
    c.in_err-rename_keys.ensures.refused))
