use Rattle.std.proofs.Common.{map}
use Rattle.std.proofs.lemmas.List.{length-map}
use Rattle.bib_queries.specs.Cited.{used_in_entries}
use Rattle.bib_queries.specs.Names.{definition_node}
use Rattle.bib_queries.specs.Needed.{with_marks}
use Rattle.bib_queries.specs.Unread.{has_unread_preamble}
use Rattle.bib_queries.proofs.CitedFacts.{asked_marked}
use Rattle.bib_queries.proofs.laws.used_are_defined.Goals as goal

pub returns : goal.returns
returns c names all text printed says skipped has_entry h index name used has =
    asked_marked (used_in_entries (with_marks h.entry_marks says.entries)) (has_unread_preamble text skipped)
    (map definition_node says.abbreviations) _
    h.definition_marks index name (length-map says.abbreviations definition_node) h.definitions used has
