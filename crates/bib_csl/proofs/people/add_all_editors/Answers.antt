use Rattle.std.proofs.Common.{◌++◌, ◌∙◌, sym, ap, append-nil}
use Rattle.bib_csl.proofs.EditorFacts.{none_given}
use Rattle.bib_csl.proofs.people.add_all_editors.Goals as goal

pub returns-then-not-has_editors : goal.returns-then-not-has_editors
returns-then-not-has_editors c =
    let fields = c.args.fields.now in
    sym (append-nil fields) ∙ ap (λ l. fields ++ l) (sym (none_given c.args.entry.now (c.has_editors.ensures c.if-not-has_editors.true)))
