use Rattle.std.proofs.Common.{◌≡◌, drop, map}
use Rattle.std.specs.List.{list_any}
use Rattle.bib_syntax.specs.Views.{entry_reading_of}
use Rattle.bib_queries.specs.Quotes as spec
use Rattle.bib_queries.proofs.quotes.contain_unbalanced_quote.Given as goal

-- an entry has an unbalanced quote exactly if one of those that are left has
abbrev pub invariant-entries : goal.invariant-entries
invariant-entries l =
    list_any (spec.contains_unbalanced_quote l.text) (map entry_reading_of l.entries)
    ≡ list_any (spec.contains_unbalanced_quote l.text) (map entry_reading_of (drop l.entry-index l.entries))
