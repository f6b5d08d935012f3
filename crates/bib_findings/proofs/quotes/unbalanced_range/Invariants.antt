use Rattle.std.proofs.Common.{◌≡◌, drop, find, map}
use Rattle.bib_syntax.specs.Views.{field_of, piece_of}
use Rattle.bib_queries.specs.Quotes.{is_unbalanced_quote}
use Rattle.bib_findings.proofs.quotes.unbalanced_range.Given as goal

-- the first unbalanced quote of the remaining pieces is that of all pieces
abbrev pub invariant-pieces : goal.invariant-pieces
invariant-pieces l =
    find (is_unbalanced_quote l.text) (map piece_of l.piece-items)
    ≡ find (is_unbalanced_quote l.text) (map piece_of (drop l.piece-index l.piece-items))
