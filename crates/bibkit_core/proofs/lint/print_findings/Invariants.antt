use Rattle.std.proofs.Common.{◌≡◌, take}
use Rattle.bibkit_core.specs.Asked.{selected_findings}
use Rattle.bibkit_core.specs.Adding.{IsAdded}
use Rattle.bibkit_core.specs.Linted.{ArePrinted}
use Rattle.bibkit_core.proofs.lint.print_findings.Given as goal

abbrev pub invariant-findings : goal.invariant-findings
invariant-findings l = record {
  same : l.positions ≡ l.origin.bytes.now;
  added : IsAdded
      (ArePrinted l.lint.style l.origin.name.now l.origin.bytes.now
      (selected_findings l.lint.selection l.off (take l.finding-index l.found))) l.initial.printed l.printed;
}
