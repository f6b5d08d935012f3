use Rattle.std.proofs.Common.{arith}
use Rattle.bib_syntax.specs.Views.{entry_reading_of}
use Rattle.bib_queries.proofs.ExcerptFacts.{can_be_cut}
use Rattle.bib_queries.proofs.excerpts.excerpt.Goals as goal

pub overflow_add-entry : goal.overflow_add-entry
overflow_add-entry c = omega (arith, (can_be_cut c.args.text.now (entry_reading_of c.args.entry.now) c.utf8.text c.requires).within)

pub range-requires-clause-start_le_end : goal.range-requires-clause-start_le_end
range-requires-clause-start_le_end c =
    omega (arith, (can_be_cut c.args.text.now (entry_reading_of c.args.entry.now) c.utf8.text c.requires).ordered)

pub range-requires-clause-end_boundary : goal.range-requires-clause-end_boundary
range-requires-clause-end_boundary c = (can_be_cut c.args.text.now (entry_reading_of c.args.entry.now) c.utf8.text c.requires).end
