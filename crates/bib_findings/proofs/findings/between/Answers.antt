use Rattle.std.proofs.Common.{ap, map, sym, ◌∙◌, ◌++◌}
use Rattle.bib_syntax.specs.Views.{entry_reading_of, field_of}
use Rattle.bib_findings.specs.Duplicates.{entries_at}
use Rattle.bib_findings.specs.Stray.{stray_findings}
use Rattle.bib_findings.proofs.AddingFacts.{between_are}
use Rattle.bib_findings.proofs.findings.between.Goals as goal

pub returns : goal.returns
returns c =
    let said = map entry_reading_of c.args.said.now in
    between_are c.args.text.now c.args.ends.now c.args.skipped.now c.args.names.now said c.args.origins.now c.args.own.now
    (map field_of c.args.definitions.now)
    (entries_at said c.deref.result.now)
    c.new-found.result.items c.add_references.new.found.items c.add_duplicates.new.found.items c.add_strays.new.found.items
    c.add_cases.new.found.items c.add_early.new.found.items c.add_once.new.found.items
    c.add_redefinitions.new.found.items c.add_readings.new.found.items
    (ap (entries_at said) c.deref.ensures.value ∙ c.in_ok-whole.ensures.whole)
    c.new-found.ensures.items c.in_ok-add_references.ensures c.in_ok-add_duplicates.ensures
    (c.in_ok-add_strays.ensures
    ∙ ap (λ l. c.add_duplicates.new.found.items ++ stray_findings c.args.text.now (entries_at said l))
    (c.deref-2.ensures.value ∙ sym c.deref.ensures.value))
    c.in_ok-add_cases.ensures c.in_ok-add_early.ensures c.in_ok-add_once.ensures
    c.in_ok-add_redefinitions.ensures c.in_ok-add_readings.ensures
