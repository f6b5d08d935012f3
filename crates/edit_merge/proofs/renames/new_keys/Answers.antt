use Rattle.std.proofs.Common.{ap, ◌∙◌}
use Rattle.std.specs.Prelude.{option_map}
use Rattle.bib_syntax.specs.Views.{entry_reading_of}
use Rattle.edit_merge.specs.RenameViews.{replacement_in}
use Rattle.edit_merge.proofs.RenameFacts.{pushed_key}
use Rattle.edit_merge.proofs.renames.new_keys.Goals as goal

pub entries-preserved : goal.entries-preserved
entries-preserved c =
    pushed_key (option_map (λ k. k.now)) entry_reading_of (λ e. replacement_in c.args.keys.now e.key.text) c.args.entries.now
    c.entries.entry-index c.entry-item.result c.entries.new.items c.push.new.self.items c.copied.result _ c.entries-test.true
    c.entry-item.is c.in_ok-push.ensures.items
    (ap (option_map (λ k. k.now)) (c.copied.ensures ∙ c.get.ensures.value)) c.entries.invariant
