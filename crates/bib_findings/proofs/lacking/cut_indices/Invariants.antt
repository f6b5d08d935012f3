use Rattle.std.proofs.Common.{◌≡◌, ◌↔◌, ◌<◌, ℕ, true, List, length, map}
use Rattle.std.specs.BTreeSet.{contains}
use Rattle.std.specs.List.{All, Contains}
use Rattle.std.specs.Ordering.{nat_cmp}
use Rattle.bib_syntax.specs.Views.{entry_reading_of}
use Rattle.bib_syntax.specs.declared.raw.recovery.SkippedBlock.{SkippedBlock}
use Rattle.bib_findings.specs.Cuts.{begins_block}
use Rattle.bib_findings.specs.Lacking.{is_cut_at}
use Rattle.bib_findings.proofs.lacking.cut_indices.Given as goal

-- `cut` has the indices of the cut entries among the first ones
abbrev pub invariant-origins : goal.invariant-origins
invariant-origins l = record {
  below : All (λ i. i < length l.origins) l.cut.items;
  cut : (skipped : List SkippedBlock) → ((start : ℕ) → contains nat_cmp l.starts start ≡ begins_block skipped start)
      → (i : ℕ) → Contains l.cut.items i ↔ ((i < l.index) × (is_cut_at skipped (map entry_reading_of l.said) l.origins i ≡ true));
}
