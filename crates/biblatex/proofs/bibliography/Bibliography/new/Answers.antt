use Rattle.bib_file_entries.proofs.BibliographyFacts.{below_empty}
use Rattle.biblatex.proofs.bibliography.Bibliography.new.Goals as goal

pub invariant_of-result : goal.invariant_of-result
invariant_of-result c = rw c.new-2.ensures (below_empty _)
