use Rattle.std.proofs.Common.{refl}
use Rattle.bib_syntax.proofs.RecoveryFacts.{entries_stand}
use Rattle.bib_queries.proofs.DefinitionFacts.{definitions_stand}
use Rattle.bib_queries.proofs.PreambleFacts.{preambles_stand}
use Rattle.bib_queries.proofs.SkippedFacts.{skipped_stand}
use Rattle.bib_queries.proofs.excerpts.answer_of.Goals as goal

pub answer_found-requires-clause-entries : goal.answer_found-requires-clause-entries
answer_found-requires-clause-entries c = entries_stand c.args.text.now refl c.requires

pub answer_found-requires-clause-definitions : goal.answer_found-requires-clause-definitions
answer_found-requires-clause-definitions c = definitions_stand c.args.text.now refl c.requires

pub answer_found-requires-clause-preambles : goal.answer_found-requires-clause-preambles
answer_found-requires-clause-preambles c = preambles_stand c.requires

pub answer_found-requires-clause-skipped : goal.answer_found-requires-clause-skipped
answer_found-requires-clause-skipped c = skipped_stand c.args.text.now refl c.requires
