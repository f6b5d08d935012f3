use Rattle.bib_collections.proofs.Walks as walks
use Rattle.bib_inheritance.specs.EntryTexts.{no_entry}
use Rattle.bib_inheritance.specs.Resolving.{rule_by}
use Rattle.bib_inheritance.proofs.RangeFacts.{graph_in_range}
use Rattle.biblatex.specs.Resolved.{names_of}
use Rattle.biblatex.proofs.ResolvedFacts.{names_below}
use Rattle.biblatex.proofs.laws.inherits_in_one_way.Goals as goal

pub returns-clause-in_range : goal.returns-clause-in_range
returns-clause-in_range c own = graph_in_range (names_of own) own (names_below own)

pub returns-clause-one : goal.returns-clause-one
returns-clause-one c own graph in_range none = walks.one_solution graph in_range none no_entry (rule_by own)
