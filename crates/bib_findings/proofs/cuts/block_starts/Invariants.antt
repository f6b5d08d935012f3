use Rattle.std.proofs.Common.{◌≡◌, ℕ, take}
use Rattle.std.specs.BTreeSet.{contains}
use Rattle.std.specs.Ordering.{nat_cmp}
use Rattle.bib_findings.specs.Cuts.{begins_block}
use Rattle.bib_findings.proofs.cuts.block_starts.Given as goal

-- the set contains the starts of the first blocks
abbrev pub invariant-skipped : goal.invariant-skipped
invariant-skipped l = (start : ℕ) → contains nat_cmp l.starts start ≡ begins_block (take l.block-index l.skipped) start
