use Rattle.std.proofs.Common.{List, ◌++◌, ap, append-nil, map, sym, ◌∙◌, subst}
use Rattle.std.proofs.lemmas.List.{take_all}
use Rattle.bib_syntax.specs.Reading.{EntryReading}
use Rattle.bib_syntax.specs.Views.{entry_reading_of}
use Rattle.bib_findings.specs.Counted.{ArePartsCounted}
use Rattle.bib_findings.specs.Duplicates.{entries_at}
use Rattle.bib_findings.specs.Once.{fields_finding, fields_once}
use Rattle.bib_findings.specs.declared.once.Counted.{Counted}
use Rattle.bib_findings.proofs.OnceFacts.{fields_counted, finding_next, findings_of_counts, found_of}
use Rattle.bib_findings.proofs.once.add_fields.Goals as goal

pub origins-preserved : goal.origins-preserved
origins-preserved c = record {
  met = c.in_ok-count_fields.ensures.met;
  indices = c.in_ok-count_fields.ensures.indices;
  counted =
      fields_counted c.args.said.now c.args.origins.now c.origins.index-index c.index-said-index.result c.origins.counted.items
      c.count_fields.new.counted.items c.requires.there c.origins-test.true c.index-said-index.is c.origins.invariant.counted
      c.in_ok-count_fields.ensures.counted;
}

pub counted-init : goal.counted-init
counted-init c = sym (append-nil c.args.found.now.items)

pub counted-preserved : goal.counted-preserved
counted-preserved c =
    finding_next fields_finding c.deref-one-items.result.now c.counted.one-index c.args.found.now.items c.counted.found.items
    c.push.new.self.items c.in_ok-fields_finding.field-0 c.counted-test.true c.counted.invariant c.in_ok-push.ensures.items
    c.in_ok-fields_finding.ensures

pub returns-clause-added : goal.returns-clause-added
returns-clause-added c =
    let old = c.args.found.now.items in
    let readings : List EntryReading = map entry_reading_of c.args.said.now in
    let counted : List Counted = c.origins.counted.items in
    let are : ArePartsCounted counted (fields_once (entries_at readings c.args.origins.now)) =
    subst (λ l. ArePartsCounted counted (fields_once (entries_at readings l)))
    (take_all c.origins.index-index c.args.origins.now c.origins-test.false) c.origins.invariant.counted in
    c.counted.invariant
    ∙ ap (λ l. old ++ map (found_of fields_finding) l)
    (take_all c.counted.one-index c.deref-one-items.result.now c.counted-test.false ∙ c.deref-one-items.ensures.value)
    ∙ ap (λ l. old ++ l) (findings_of_counts fields_finding (fields_once (entries_at readings c.args.origins.now)) counted are)
