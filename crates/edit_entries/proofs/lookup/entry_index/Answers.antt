use Rattle.std.proofs.Common.{sym, ◌∙◌}
use Rattle.bib_syntax.specs.Views.{entry_reading_of}
use Rattle.edit_entries.specs.Documents.{is_keyed}
use Rattle.edit_entries.proofs.PositionFacts.{first_found, first_step}
use Rattle.edit_entries.proofs.lookup.entry_index.Goals as goal

pub returns-then-is_keyed-clause-is : goal.returns-then-is_keyed-clause-is
returns-then-is_keyed-clause-is c =
    sym
    (first_found entry_reading_of (is_keyed c.args.key.now) c.args.entries.now c.entries.index
    c.index-entries-index.result c.entries-test.true c.index-entries-index.is c.entries.invariant
    (sym c.is_keyed.ensures ∙ c.if-is_keyed.true))

pub entries-preserved : goal.entries-preserved
entries-preserved c =
    first_step entry_reading_of (is_keyed c.args.key.now) c.args.entries.now c.entries.index
    c.index-entries-index.result c.entries-test.true c.index-entries-index.is c.entries.invariant
    (sym c.is_keyed.ensures ∙ c.if-is_keyed.false)
