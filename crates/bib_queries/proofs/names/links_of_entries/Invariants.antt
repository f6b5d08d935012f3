use Rattle.std.proofs.Common.{◌≡◌, map, take}
use Rattle.bib_syntax.specs.Views.{entry_reading_of}
use Rattle.bib_queries.specs.Names.{entry_node}
use Rattle.bib_queries.specs.Texts.{node_of}
use Rattle.bib_queries.proofs.names.links_of_entries.Given as goal

abbrev pub invariant-entries : goal.invariant-entries
invariant-entries l = map node_of l.links.items ≡ map entry_node (map entry_reading_of (take l.entry-index l.entries))
