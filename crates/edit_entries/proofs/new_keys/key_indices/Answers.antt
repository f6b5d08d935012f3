use Rattle.bib_syntax.specs.Views.{entry_reading_of}
use Rattle.edit_entries.specs.NewKeys.{index_for}
use Rattle.edit_entries.specs.Documents.{is_keyed}
use Rattle.edit_entries.proofs.IndexFacts.{index_more}
use Rattle.edit_entries.proofs.new_keys.key_indices.Goals as goal

pub entries-preserved : goal.entries-preserved
entries-preserved c = λ name.
    index_more entry_reading_of (is_keyed name) c.args.entries.now c.entries.index c.index-entries-index.result
    (index_for c.entries.indices name) (index_for c.give_index.new.indices name) c.entries-test.true c.index-entries-index.is
    (c.entries.invariant name) (c.in_ok-give_index.ensures name)
