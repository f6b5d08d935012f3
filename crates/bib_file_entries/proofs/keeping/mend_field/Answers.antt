use Rattle.bib_abbreviations.specs.Abbreviations.{given_by}
use Rattle.bib_file_entries.proofs.MendingFacts.{field_stays}
use Rattle.bib_file_entries.proofs.keeping.mend_field.Goals as goal

pub returns-then-not-has_unknown-clause-mended : goal.returns-then-not-has_unknown-clause-mended
returns-then-not-has_unknown-clause-mended c =
    field_stays (given_by c.args.reader.now) c.args.field.now
    (rw (c.if-not-has_unknown.true, c.deref.ensures.value) at c.has_unknown.ensures)
