-- Meaning: words of public contracts.
-- Documents with a text in quotes whose braces aren't balanced. An edit can break such a text.
use Rattle.std.specs.Prelude.{◌||◌, Bool}
use Rattle.std.specs.List.{list_any}
use Rattle.bib_queries.specs.Quotes.{contains_unbalanced_quote, has_unbalanced_quote}
use Rattle.edit_entries.specs.Documents.{Document}

-- whether an entry, or the definition of an abbreviation, in a document contains a piece in quotes whose braces aren't balanced
abbrev pub has_unbalanced_quotes : Document → Bool
has_unbalanced_quotes d =
    list_any (contains_unbalanced_quote d.text) d.says.entries || list_any (has_unbalanced_quote d.text) d.says.abbreviations
