use Rattle.std.proofs.Common.{◌≡◌, map, take}
use Rattle.bibkit_core.proofs.cited.keys.Given as goal

abbrev pub invariant-citations : goal.invariant-citations
invariant-citations l = map (λ key. key.now) l.keys.items ≡ map (λ c. c.key) (take l.citation-index l.citations.keys.items)
