use Rattle.std.proofs.Common.{◌≡◌, map, take}
use Rattle.bib_queries.specs.Needed.{is_listed}
use Rattle.bib_queries.proofs.known.marks_among.Given as goal

abbrev pub invariant-keys : goal.invariant-keys
invariant-keys l = l.marks.items ≡ map (is_listed (map (λ n. n.now) l.names)) (map (λ k. k.now) (take l.key-index l.keys))
