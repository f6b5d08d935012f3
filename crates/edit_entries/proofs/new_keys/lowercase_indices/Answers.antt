use Rattle.bib_syntax.specs.Views.{entry_reading_of}
use Rattle.edit_entries.specs.NewKeys.{index_for_word}
use Rattle.edit_entries.specs.References.{has_key_word}
use Rattle.edit_entries.proofs.IndexFacts.{index_more}
use Rattle.edit_entries.proofs.new_keys.lowercase_indices.Goals as goal

pub entries-preserved : goal.entries-preserved
entries-preserved c = λ name.
    index_more entry_reading_of (has_key_word name) c.args.entries.now c.entries.index c.index-entries-index.result
    (index_for_word c.entries.indices name) (index_for_word c.give_lowercase_index.new.indices name)
    c.entries-test.true c.index-entries-index.is
    (c.entries.invariant name) (c.in_ok-give_lowercase_index.ensures name)
