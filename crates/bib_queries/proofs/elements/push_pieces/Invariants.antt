use Rattle.std.proofs.Common.{◌≡◌, ◌++◌, map}
use Rattle.std.specs.List.{flat_map}
use Rattle.std.specs.String.{string_bytes}
use Rattle.bib_queries.specs.Elements.{unescaped_piece}
use Rattle.bib_queries.proofs.elements.push_pieces.Given as goal

abbrev pub invariant-pieces : goal.invariant-pieces
invariant-pieces l = string_bytes l.written ≡ string_bytes l.initial.written ++ flat_map unescaped_piece (map (λ p. p.now) l.yielded)
