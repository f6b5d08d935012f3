use Rattle.bib_file_entries.proofs.KeepingFacts.{kept_entry}
use Rattle.bib_file_entries.proofs.keeping.keep_entry.Goals as goal

pub returns-clause-kept : goal.returns-clause-kept
returns-clause-kept c =
    kept_entry c.args.raw.now c.in_ok-entry.entry (rw c.deref.ensures.value at c.in_ok-pairs.ensures.kept)
    c.in_ok-entry.ensures.key c.in_ok-entry.ensures.kind c.in_ok-entry.ensures.fields
