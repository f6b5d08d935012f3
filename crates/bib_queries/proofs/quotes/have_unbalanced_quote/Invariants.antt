use Rattle.std.proofs.Common.{◌≡◌, drop, map}
use Rattle.std.specs.List.{list_any}
use Rattle.bib_syntax.specs.Views.{field_of}
use Rattle.bib_queries.specs.Quotes as spec
use Rattle.bib_queries.proofs.quotes.have_unbalanced_quote.Given as goal

-- a field has an unbalanced quote exactly if one of those that are left has
abbrev pub invariant-fields : goal.invariant-fields
invariant-fields l =
    list_any (spec.has_unbalanced_quote l.text) (map field_of l.fields)
    ≡ list_any (spec.has_unbalanced_quote l.text) (map field_of (drop l.field-index l.fields))
