use Rattle.std.proofs.Common.{[], ◌∷◌, ◌++◌, ap, sym, ◌∙◌}
use Rattle.bib_syntax.specs.Views.{entry_reading_of}
use Rattle.bib_findings.proofs.SeenFacts.{same_at}
use Rattle.bib_findings.proofs.duplicates.add_same.Goals as goal

pub returns-in_ok-push : goal.returns-in_ok-push
returns-in_ok-push c =
    c.in_ok-push.ensures.items
    ∙ ap (λ l. c.args.found.now.items ++ l)
    (ap (λ f. f ∷ []) c.in_ok-duplicate_finding.ensures
    ∙ sym
    (same_at c.args.said.now (entry_reading_of c.args.one.now) c.args.first c.in-Some.first c.index-said-first.result
    c.in-Some.is c.requires c.index-said-first.is))
