use Rattle.std.proofs.Common.{◌≡◌, drop, map}
use Rattle.std.specs.List.{list_any}
use Rattle.bib_syntax.specs.Views.{field_of, piece_of}
use Rattle.bib_queries.specs.Quotes as spec
use Rattle.bib_queries.proofs.quotes.has_unbalanced_quote.Given as goal

-- a piece is an unbalanced quote exactly if one of those that are left is
abbrev pub invariant-pieces : goal.invariant-pieces
invariant-pieces l =
    spec.has_unbalanced_quote l.text (field_of l.field)
    ≡ list_any (spec.is_unbalanced_quote l.text) (map piece_of (drop l.piece-index l.piece-items))
