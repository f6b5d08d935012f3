use Rattle.std.proofs.Common.{map, subst}
use Rattle.bib_findings.specs.Errors.{block_finding}
use Rattle.bib_findings.specs.Findings.{AreSortedByPlace}
use Rattle.bib_syntax.specs.Views.{entry_reading_of, file_of}
use Rattle.bibkit_core.proofs.SkippedFacts.{findings_of_blocks}
use Rattle.bibkit_core.proofs.skipped.block_findings.Goals as goal

pub returns : goal.returns
returns c =
    let recovery = c.in_ok-recovery.recovery in
    let found = c.in_ok-found.found.items in
    let text = c.args.text.now in
    record {
      says = file_of recovery.raw;
      skipped = recovery.skipped.items;
      recovery = c.in_ok-recovery.ensures;
      sorted =
          subst (λ said. AreSortedByPlace (map (block_finding text (map entry_reading_of said)) recovery.skipped.items) found)
          c.deref-2.ensures.value
          (subst (λ skipped. AreSortedByPlace (map (block_finding text (map entry_reading_of c.deref-2.result.now)) skipped) found)
          c.deref.ensures.value (findings_of_blocks c.new.ensures.items c.in_ok-found.ensures));
    }
