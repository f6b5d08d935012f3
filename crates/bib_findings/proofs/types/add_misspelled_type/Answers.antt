use Rattle.std.proofs.Common.{◌++◌, ap, append-nil, option_copied, sym, ◌∙◌}
use Rattle.bib_syntax.specs.Views.{entry_reading_of}
use Rattle.bib_findings.proofs.TypeFacts.{known_right, unknown_by}
use Rattle.bib_findings.proofs.types.add_misspelled_type.Goals as goal

pub returns-then-is_known_type : goal.returns-then-is_known_type
returns-then-is_known_type c =
    let old = c.args.found.now.items in
    sym
    (ap (λ l. old ++ l)
    (known_right (entry_reading_of c.args.said.now) (sym c.is_known_type.ensures ∙ c.if-is_known_type.true)) ∙ append-nil old)

pub returns : goal.returns
returns c =
    let old = c.args.found.now.items in
    c.in_ok-add_if_meant.ensures
    ∙ ap (λ l. old ++ l)
    (unknown_by (entry_reading_of c.args.said.now) (option_copied c.in_ok-meant.meant)
    (sym c.is_known_type.ensures ∙ c.if-is_known_type.false) c.in_ok-meant.ensures)
