use Rattle.std.proofs.Common.{◌++◌, ap, ◌∙◌, sym, subst}
use Rattle.std.specs.BTreeSet.{contains_text}
use Rattle.bib_syntax.specs.Views.{field_of}
use Rattle.bib_findings.specs.UsedNames.{HasLowercaseNames, names_of_definitions}
use Rattle.bib_findings.proofs.SeenFacts.{on_ok, on_ok_more}
use Rattle.bib_findings.proofs.UnusedFacts.{definitions_next, unused_if_new}
use Rattle.bib_findings.proofs.unused_definitions.add_if_unused.Goals as goal

pub returns-clause-set : goal.returns-clause-set
returns-clause-set c =
    on_ok c.add_if_new.result
    (λ used earlier has.
    subst (HasLowercaseNames (contains_text c.insert_name.new.set)) (definitions_next used earlier (field_of c.args.definition.now))
    (c.in_ok-is_new.ensures.set (used ++ names_of_definitions earlier) has))

pub returns-clause-added : goal.returns-clause-added
returns-clause-added c =
    let f = field_of c.args.definition.now in
    on_ok_more c.add_if_new.result
    (λ is used earlier has.
    is
    ∙ ap (λ l. c.args.found.now.items ++ l)
    (sym (unused_if_new used earlier f c.in_ok-is_new.is_new (c.in_ok-is_new.ensures.new (used ++ names_of_definitions earlier) has))))
    c.add_if_new.ensures
