use Rattle.std.proofs.Common.{◌++◌, ◌∷◌, [], ◌+◌, ap, arith, length, length-append, rules, ◌∙◌}
use Rattle.bib_collections.specs.Names.{AreIndicesBelow}
use Rattle.bib_file_entries.specs.Bibliography.{claims}
use Rattle.bib_file_entries.proofs.BibliographyFacts.{below_claimed, below_more}
use Rattle.biblatex.proofs.bibliography.Bibliography.insert.Goals as goal

pub invariant_of-self-2 : goal.invariant_of-self-2
invariant_of-self-2 c =
    let count = length c.self.inside.entries.items in
    let longer =
    ap length
    (c.push_reserved.ensures.items
    ∙ ap (λ es. es ++ c.args.entry ∷ []) c.in_default-claim_next.ensures.same_entries)
    ∙ length-append c.self.inside.entries.items (c.args.entry ∷ []) in
    let old = below_more count (count + 1) c.self.inside.names c.self.invariant (omega arith) in
    let new : AreIndicesBelow (count + 1) c.claim_next.new.names =
    rw c.in_default-claim_next.ensures.claimed
    (below_claimed (count + 1) (claims c.args.entry) c.self.inside.names count old (omega arith)) in
    below_more (count + 1) _ c.claim_next.new.names new (omega (arith, longer))

pub returns-clause-had : goal.returns-clause-had
returns-clause-had c = search rules

pub returns-clause-inserted : goal.returns-clause-inserted
returns-clause-inserted c = search rules

pub returns-in-Some-clause-inserted : goal.returns-in-Some-clause-inserted
returns-in-Some-clause-inserted c = search rules

pub returns-in-Err-clause-present : goal.returns-in-Err-clause-present
returns-in-Err-clause-present c = search rules
