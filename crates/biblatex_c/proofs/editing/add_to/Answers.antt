use Rattle.std.proofs.Common.{ap, ◌∙◌}
use Rattle.std.proofs.lemmas.Result.{err_from_is_err_and}
use Rattle.edit_entries.specs.LineEnds.{with_line_ends_of}
use Rattle.biblatex_c.proofs.FailureFacts.{add_fails, added_fails, no_adding_fails}
use Rattle.biblatex_c.proofs.editing.add_to.Goals as goal

pub returns-in_err-document-clause-fails : goal.returns-in_err-document-clause-fails
returns-in_err-document-clause-fails c =
    let p = err_from_is_err_and c.from_residual.result c.from_residual.ensures.1 in
    rw (p.1, p.2) (no_adding_fails c.args.text.now c.args.added.now c.in_err-document.field-0.0 c.in_err-document.ensures.fails)

pub returns-in_err-more-clause-fails : goal.returns-in_err-more-clause-fails
returns-in_err-more-clause-fails c =
    let p = err_from_is_err_and c.from_residual-in_err-more.result c.from_residual-in_err-more.ensures.1 in
    let same =
    c.deref.ensures ∙ c.in_ok-added.ensures
    ∙ ap (λ t. with_line_ends_of t c.in_ok-text_of.field-0.now) (c.text.ensures ∙ c.in_ok-document.ensures.same)
    ∙ ap (with_line_ends_of c.args.text.now) c.in_ok-text_of.ensures.text in
    rw (p.1, p.2)
    (added_fails c.args.text.now c.args.added.now c.deref.result.now c.in_err-more.field-0.0 same c.in_err-more.ensures.fails)

pub returns-in_err-add_entries-clause-fails : goal.returns-in_err-add_entries-clause-fails
returns-in_err-add_entries-clause-fails c =
    let p = err_from_is_err_and c.from_residual-in_err-add_entries.result c.from_residual-in_err-add_entries.ensures.1 in
    let same =
    c.in_ok-more.ensures.same ∙ c.deref.ensures ∙ c.in_ok-added.ensures
    ∙ ap (λ t. with_line_ends_of t c.in_ok-text_of.field-0.now) (c.text.ensures ∙ c.in_ok-document.ensures.same)
    ∙ ap (with_line_ends_of c.args.text.now) c.in_ok-text_of.ensures.text in
    rw (p.1, p.2) (add_fails c.args.text.now c.args.added.now c.in_ok-document.document c.in_ok-more.more c.in_err-add_entries.field-0.0
    c.in_ok-document.ensures.same c.in_ok-document.ensures.read same c.in_ok-more.ensures.read c.in_err-add_entries.ensures.refused)

pub returns-clause-made : goal.returns-clause-made
returns-clause-made c =
    let added = c.in_ok-add_entries.ensures.added in
    let same =
    c.in_ok-more.ensures.same ∙ c.deref.ensures ∙ c.in_ok-added.ensures
    ∙ ap (λ t. with_line_ends_of t c.in_ok-text_of.field-0.now) c.text.ensures
    ∙ ap (with_line_ends_of c.in_ok-document.document.text) c.in_ok-text_of.ensures.text in
    record {
      document = c.in_ok-document.document;
      same = c.in_ok-document.ensures.same;
      read = c.in_ok-document.ensures.read;
      balanced = c.in_ok-document.ensures.balanced;
      edited = record {
        document = added.document;
        outcome = (c.in_ok-more.more, same, c.in_ok-more.ensures.read, c.in_ok-more.ensures.balanced, added.outcome);
        is = added.is;
        read = added.read;
      };
    }
