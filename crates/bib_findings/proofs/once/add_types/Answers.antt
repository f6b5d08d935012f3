use Rattle.std.proofs.Common.{List, ◌++◌, ap, append-nil, map, sym, ◌∙◌, subst}
use Rattle.std.proofs.lemmas.List.{take_all}
use Rattle.bib_syntax.specs.Reading.{EntryReading}
use Rattle.bib_syntax.specs.Views.{entry_reading_of}
use Rattle.bib_findings.specs.Counted.{ArePartsCounted}
use Rattle.bib_findings.specs.Duplicates.{entries_at}
use Rattle.bib_findings.specs.Once.{types_finding, types_once}
use Rattle.bib_findings.specs.declared.once.Counted.{Counted}
use Rattle.bib_findings.proofs.OnceFacts.{types_counted, finding_next, findings_of_counts, found_of}
use Rattle.bib_findings.proofs.once.add_types.Goals as goal

pub origins-preserved : goal.origins-preserved
origins-preserved c = record {
  indices = c.in_ok-count_type.ensures.indices;
  counted =
      types_counted c.args.said.now c.args.origins.now c.origins.index-index c.index-said-index.result c.origins.counted.items
      c.count_type.new.counted.items c.requires c.origins-test.true c.index-said-index.is c.origins.invariant.counted
      c.in_ok-count_type.ensures.counted;
}

pub counted-init : goal.counted-init
counted-init c = sym (append-nil c.args.found.now.items)

pub counted-preserved : goal.counted-preserved
counted-preserved c =
    finding_next types_finding c.deref-one-items.result.now c.counted.one-index c.args.found.now.items c.counted.found.items
    c.push.new.self.items c.in_ok-types_finding.field-0 c.counted-test.true c.counted.invariant c.in_ok-push.ensures.items
    c.in_ok-types_finding.ensures

pub returns : goal.returns
returns c =
    let old = c.args.found.now.items in
    let readings : List EntryReading = map entry_reading_of c.args.said.now in
    let counted : List Counted = c.origins.counted.items in
    let are : ArePartsCounted counted (types_once (entries_at readings c.args.origins.now)) =
    subst (λ l. ArePartsCounted counted (types_once (entries_at readings l)))
    (take_all c.origins.index-index c.args.origins.now c.origins-test.false) c.origins.invariant.counted in
    c.counted.invariant
    ∙ ap (λ l. old ++ map (found_of types_finding) l)
    (take_all c.counted.one-index c.deref-one-items.result.now c.counted-test.false ∙ c.deref-one-items.ensures.value)
    ∙ ap (λ l. old ++ l) (findings_of_counts types_finding (types_once (entries_at readings c.args.origins.now)) counted are)
