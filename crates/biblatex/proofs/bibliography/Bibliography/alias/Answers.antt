use Rattle.std.proofs.Common.{sym}
use Rattle.bib_file_entries.proofs.BibliographyFacts.{below_insert}
use Rattle.biblatex.proofs.bibliography.Bibliography.alias.Goals as goal

pub invariant_of-self : goal.invariant_of-self
invariant_of-self c = rw c.in_err-claim.ensures.refused c.self.invariant

pub invariant_of-self-2 : goal.invariant_of-self-2
invariant_of-self-2 c =
    rw c.in_ok-claim.ensures.claimed
    (below_insert _ _ _ _ c.self.invariant (c.self.invariant c.args.key.now c.in-Some.index (sym c.in-Some.ensures)))
