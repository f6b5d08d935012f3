use Rattle.std.proofs.Common.{◌+◌, ap, unwrap_or, ◌∙◌}
use Rattle.std.specs.FinMap.{insert}
use Rattle.bib_syntax.specs.Views.{entry_reading_of}
use Rattle.edit_merge.proofs.RenameFacts.{count_next}
use Rattle.edit_versions.proofs.NameFacts.{counts_none}
use Rattle.edit_merge.proofs.renames.key_counts.Goals as goal

pub entries-init : goal.entries-init
entries-init c = counts_none c.new-counts.result c.new-counts.ensures

pub entries-preserved : goal.entries-preserved
entries-preserved c =
    let key = c.entry-item.result.v.key.v.now in
    count_next entry_reading_of c.args.entries.now c.entries.entry-index c.entry-item.result c.entries.counts c.claim.new.self
    c.unwrap_or-number.result c.entries-test.true c.entry-item.is c.entries.invariant
    (c.unwrap_or-number.ensures ∙ ap (λ o. unwrap_or o 0) c.get.ensures)
    (c.in_ok-claim.ensures.claimed ∙ ap (λ n. insert c.entries.counts n (c.unwrap_or-number.result + 1)) c.in_ok-from_str.ensures)
