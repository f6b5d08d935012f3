use Rattle.std.proofs.Common.{◌+◌, map, take, sym, subst}
use Rattle.std.specs.BTreeSet.{contains_text}
use Rattle.bib_syntax.specs.Views.{entry_reading_of}
use Rattle.bib_findings.specs.Duplicates.{entries_at}
use Rattle.bib_findings.specs.FirstKeys.{AreKeysSeen}
use Rattle.bib_findings.specs.ParentOrder.{early_after}
use Rattle.bib_findings.proofs.AfterFacts.{appended_next}
use Rattle.bib_findings.proofs.SeenFacts.{entries_next}
use Rattle.bib_findings.proofs.parent_order.add_early_among.Goals as goal

pub origins-preserved : goal.origins-preserved
origins-preserved c =
    let said = map entry_reading_of c.args.said.now in
    let earlier = entries_at said (take c.origins.index-index c.args.origins.now) in
    let next = entries_next c.args.said.now c.args.origins.now c.origins.index-index c.index-said-index.result c.requires
    c.origins-test.true c.index-said-index.is in
    record {
      seen =
          subst (AreKeysSeen (contains_text c.add_key.new.seen)) (sym next)
          (c.in_ok-add_key.ensures earlier c.origins.invariant.seen);
      found =
          appended_next early_after (entries_at said (take (c.origins.index-index + 1) c.args.origins.now)) earlier
          (entry_reading_of c.index-said-index.result) c.args.found.now.items
          c.origins.found.items c.add_if_early.new.found.items next c.origins.invariant.found
          (c.in_ok-add_if_early.ensures earlier c.origins.invariant.seen);
    }
