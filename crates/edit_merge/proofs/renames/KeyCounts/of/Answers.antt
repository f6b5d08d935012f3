use Rattle.std.proofs.Common.{ℕ, List, map, subst}
use Rattle.bib_collections.specs.Sorted.{ByText}
use Rattle.bib_syntax.specs.Views.{entry_reading_of}
use Rattle.edit_changes.specs.Counts.{AreCounts}
use Rattle.edit_merge.proofs.renames.KeyCounts.of.Goals as goal

pub returns : goal.returns
returns c = record {
  base =
      subst (λ s. AreCounts (map (λ e. e.key.text) s.entries) c.in_ok-key_counts.field-0) c.raw.ensures.says
      (subst (λ l. AreCounts (map (λ e. e.key.text) (map entry_reading_of l)) c.in_ok-key_counts.field-0) c.deref.ensures.value
      c.in_ok-key_counts.ensures);
  ours =
      subst (λ s. AreCounts (map (λ e. e.key.text) s.entries) c.in_ok-key_counts-2.field-0) c.raw-2.ensures.says
      (subst (λ l. AreCounts (map (λ e. e.key.text) (map entry_reading_of l)) c.in_ok-key_counts-2.field-0) c.deref-2.ensures.value
      c.in_ok-key_counts-2.ensures);
  theirs =
      subst (λ s. AreCounts (map (λ e. e.key.text) s.entries) c.in_ok-key_counts-3.field-0) c.raw-3.ensures.says
      (subst (λ l. AreCounts (map (λ e. e.key.text) (map entry_reading_of l)) c.in_ok-key_counts-3.field-0) c.deref-3.ensures.value
      c.in_ok-key_counts-3.ensures);
}
