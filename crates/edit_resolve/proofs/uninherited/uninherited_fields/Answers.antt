use Rattle.std.proofs.Common.{◌≡◌, ◌∙◌, ap, map, subst}
use Rattle.std.proofs.lemmas.Result.{err_from_is_err_and}
use Rattle.bib_collections.specs.Graph.{HasNoCycle}
use Rattle.bib_syntax.specs.Views.{entry_reading_of}
use Rattle.edit_entries.specs.Documents.{Document}
use Rattle.edit_resolve.specs.Parents.{parent_graph}
use Rattle.edit_resolve.specs.Resolved.{IsResolveError}
use Rattle.edit_resolve.specs.Uninherited.{uninherited}
use Rattle.edit_resolve.specs.Working.{readings}
use Rattle.edit_resolve.proofs.uninherited.uninherited_fields.Goals as goal

pub returns-in_err-fields-clause-refused : goal.returns-in_err-fields-clause-refused
returns-in_err-fields-clause-refused c =
    let d : Document = c.args.document.now in
    let es : readings c.in_ok-file.file ≡ d.says.entries =
    ap (map entry_reading_of) (c.in_ok-file.ensures.entries ∙ c.deref.ensures.value) ∙ ap (λ f. f.entries) c.raw-raw.ensures.says in
    let p = err_from_is_err_and c.from_residual-in_err-fields.result c.from_residual-in_err-fields.ensures.1 in
    rw (p.1, p.2) (subst (λ l. IsResolveError l c.in_err-fields.field-0.0) es c.in_err-fields.ensures.refused)

pub returns-clause-found : goal.returns-clause-found
returns-clause-found c =
    let d : Document = c.args.document.now in
    let es : readings c.in_ok-file.file ≡ d.says.entries =
    ap (map entry_reading_of) (c.in_ok-file.ensures.entries ∙ c.deref.ensures.value) ∙ ap (λ f. f.entries) c.raw-raw.ensures.says in
    c.in_ok-file_fields.ensures ∙ ap uninherited es

pub returns-clause-no_cycle : goal.returns-clause-no_cycle
returns-clause-no_cycle c =
    let d : Document = c.args.document.now in
    let es : readings c.in_ok-file.file ≡ d.says.entries =
    ap (map entry_reading_of) (c.in_ok-file.ensures.entries ∙ c.deref.ensures.value) ∙ ap (λ f. f.entries) c.raw-raw.ensures.says in
    subst (λ l. HasNoCycle (parent_graph l)) es c.in_ok-fields.ensures.no_cycle
