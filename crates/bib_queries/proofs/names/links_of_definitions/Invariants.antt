use Rattle.std.proofs.Common.{◌≡◌, map, take}
use Rattle.bib_syntax.specs.Views.{field_of}
use Rattle.bib_queries.specs.Names.{definition_node}
use Rattle.bib_queries.specs.Texts.{node_of}
use Rattle.bib_queries.proofs.names.links_of_definitions.Given as goal

abbrev pub invariant-pairs : goal.invariant-pairs
invariant-pairs l = map node_of l.links.items ≡ map definition_node (map field_of (take l.pair-index l.pairs))
