use Rattle.bib_syntax.specs.Views.{entry_reading_of}
use Rattle.edit_entries.specs.NewKeys.{index_for}
use Rattle.edit_entries.specs.References.{has_alias}
use Rattle.edit_entries.proofs.IndexFacts.{index_more}
use Rattle.edit_entries.proofs.new_keys.alias_indices.Goals as goal

pub entries-preserved : goal.entries-preserved
entries-preserved c = λ name.
    index_more entry_reading_of (has_alias name) c.args.entries.now c.entries.index c.index-entries-index.result
    (index_for c.entries.indices name) (index_for c.give_alias_index.new.indices name) c.entries-test.true c.index-entries-index.is
    (c.entries.invariant name) (c.in_ok-give_alias_index.ensures name)
