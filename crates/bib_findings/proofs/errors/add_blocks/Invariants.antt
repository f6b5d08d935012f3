use Rattle.std.proofs.Common.{◌≡◌, ◌++◌, map, take}
use Rattle.bib_syntax.specs.Views.{entry_reading_of}
use Rattle.bib_findings.specs.Errors.{block_finding}
use Rattle.bib_findings.proofs.errors.add_blocks.Given as goal

abbrev pub invariant-skipped : goal.invariant-skipped
invariant-skipped l =
    l.found.items ≡ l.initial.found.items ++ map (block_finding l.text (map entry_reading_of l.said)) (take l.block-index l.blocks)
