use Rattle.std.proofs.Common.{◌+◌, map, take, sym, subst}
use Rattle.std.specs.BTreeMap.{get_by_text}
use Rattle.bib_syntax.specs.Views.{entry_reading_of}
use Rattle.bib_findings.specs.Duplicates.{entries_at}
use Rattle.bib_findings.specs.FirstKeys.{AreFirstKeys}
use Rattle.bib_findings.specs.KeyCases.{case_after}
use Rattle.bib_findings.proofs.AfterFacts.{appended_next}
use Rattle.bib_findings.proofs.SeenFacts.{entries_next}
use Rattle.bib_findings.proofs.key_cases.add_cases.Goals as goal

pub origins-preserved : goal.origins-preserved
origins-preserved c =
    let said = map entry_reading_of c.args.said.now in
    let earlier = entries_at said (take c.origins.index-index c.args.origins.now) in
    let next = entries_next c.args.said.now c.args.origins.now c.origins.index-index c.index-said-index.result c.requires
    c.origins-test.true c.index-said-index.is in
    record {
      firsts =
          subst (AreFirstKeys (get_by_text c.add_case.new.firsts)) (sym next)
          (c.in_ok-add_case.ensures.firsts earlier c.origins.invariant.firsts);
      found =
          appended_next case_after (entries_at said (take (c.origins.index-index + 1) c.args.origins.now)) earlier
          (entry_reading_of c.index-said-index.result) c.args.found.now.items c.origins.found.items
          c.add_case.new.found.items next c.origins.invariant.found
          (c.in_ok-add_case.ensures.added earlier c.origins.invariant.firsts);
    }
