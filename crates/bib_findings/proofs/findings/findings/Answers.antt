use Rattle.std.proofs.Common.{subst}
use Rattle.bib_syntax.specs.Views.{file_of}
use Rattle.bib_findings.specs.Findings.{AreFindings, AreSortedByPlace}
use Rattle.bib_findings.proofs.RecoveredFacts.{if_ok_more}
use Rattle.bib_findings.proofs.findings.findings.Goals as goal

pub returns : goal.returns
returns c =
    if_ok_more (λ sorted. AreSortedByPlace c.add_unused.new.found.items sorted.items)
    (λ sorted. AreFindings c.args.text.now sorted.items) c.sorted_by_place.result
    (λ sorted are. record {
      says = file_of c.in_ok-recovery.recovery.raw;
      skipped = c.in_ok-recovery.recovery.skipped.items;
      recovery = c.in_ok-recovery.ensures;
      of_text = c.in_ok-found.found.items;
      are = c.in_ok-found.ensures;
      sorted = subst (λ all. AreSortedByPlace all sorted.items) c.in_ok-add_unused.ensures are;
    })
    c.sorted_by_place.ensures
