use Rattle.std.proofs.Common.{rules}
use Rattle.std.proofs.lemmas.Fn.{always_returns_same}
use Rattle.bib_collections.specs.Sorted.{by_bytes}
use Rattle.bib_collections.proofs.SortedFacts.{searched}
use Rattle.bib_collections.proofs.sorted.find_binary.Goals as goal

-- the closure compares the name of a pair with the searched name
pub returns : goal.returns
returns g c =
    let facts = c.binary_search_by.ensures in
    searched c.args.pairs.now c.requires c.args.name.now _ facts.bound
    (facts.position (λ pair. by_bytes pair.0 c.args.name.now)
    (always_returns_same _ _ _ (λ a r f called. search rules)))
