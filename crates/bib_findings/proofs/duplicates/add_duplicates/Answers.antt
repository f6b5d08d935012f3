use Rattle.std.proofs.Common.{◌≡◌, ◌++◌, OnOk, ap, ◌∙◌, subst, map}
use Rattle.bib_syntax.specs.Views.{entry_reading_of}
use Rattle.bib_findings.specs.Duplicates.{duplicates, entries_at}
use Rattle.bib_findings.proofs.MarkFacts.{alike}
use Rattle.bib_findings.proofs.duplicates.add_duplicates.Goals as goal

pub returns : goal.returns
returns c =
    let said = map entry_reading_of c.args.said.now in
    subst (λ l. OnOk c.add_duplicates_among.result (c.add_duplicates_among.new.found.items ≡ c.args.found.now.items ++ l))
    (ap (λ l. duplicates (entries_at said l)) c.deref.ensures.value ∙ ap duplicates c.in_ok-candidates.ensures.found
    ∙ alike (entries_at said c.args.origins.now)) c.add_duplicates_among.ensures
