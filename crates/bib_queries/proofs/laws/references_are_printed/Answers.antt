use Rattle.std.proofs.Common.{map}
use Rattle.std.proofs.lemmas.List.{length-map}
use Rattle.bib_queries.specs.Names.{entry_node}
use Rattle.bib_queries.proofs.CitedFacts.{cited_marked}
use Rattle.bib_queries.proofs.laws.references_are_printed.Goals as goal

pub returns : goal.returns
returns c names all text printed says skipped has_entry h first second name mark refers has =
    cited_marked names all (map entry_node says.entries) _ h.entry_marks first second name
    (length-map says.entries entry_node) h.entries mark refers has
