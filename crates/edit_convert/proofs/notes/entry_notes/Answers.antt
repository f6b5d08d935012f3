use Rattle.bib_syntax.specs.Views.{entry_reading_of}
use Rattle.edit_convert.specs.Notes.{entry_notes}
use Rattle.edit_convert.proofs.NoteFacts.{indexed_end, indexed_step}
use Rattle.edit_convert.proofs.notes.entry_notes.Goals as goal

pub entries-preserved : goal.entries-preserved
entries-preserved c =
    indexed_step entry_reading_of (entry_notes c.args.dialect c.args.defines c.args.text.now) c.args.entries.now
    c.entries.index c.index-entries-index.result c.entries-test.true c.index-entries-index.is _ _ _
    c.in_ok-push_entry_notes.ensures c.entries.invariant

pub returns : goal.returns
returns c =
    indexed_end entry_reading_of (entry_notes c.args.dialect c.args.defines c.args.text.now) c.args.entries.now
    c.entries.index _ _ c.entries-test.false c.entries.invariant
