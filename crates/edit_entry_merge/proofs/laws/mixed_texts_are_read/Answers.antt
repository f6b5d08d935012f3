use Rattle.std.proofs.Common.{subst}
use Rattle.edit_entries.specs.Changes.{IsReadPlaceless}
use Rattle.edit_entry_merge.specs.Merges.{merged_reading}
use Rattle.edit_entry_merge.proofs.ReadFacts.{mixed_read}
use Rattle.edit_entry_merge.proofs.VersionFacts.{version_read}
use Rattle.edit_entry_merge.proofs.laws.mixed_texts_are_read.Goals as goal

pub returns : goal.returns
returns c d e main other takes text read utf8 other_read other_utf8 is other_is mixed =
    let rm = version_read d main read utf8 is in
    let ro = version_read e other other_read other_utf8 other_is in
    subst (λ says. IsReadPlaceless (merged_reading says takes main other) text) rm.1 (mixed_read takes main other rm.0 ro.0 text mixed)
