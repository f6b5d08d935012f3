use Rattle.std.proofs.Common.{◌≡◌, ◌++◌, length, map}
use Rattle.bib_from_csl.specs.Tags.{open_after_pieces, pieces_text}
use Rattle.bib_from_csl.proofs.tags.push_pieces.Given as goal

abbrev pub invariant-pieces : goal.invariant-pieces
invariant-pieces l =
    (l.marked.text ≡ l.initial.marked.text ++ pieces_text (length l.initial.marked.tags) (map (λ p. p.now) l.yielded))
    × (length l.marked.tags ≡ open_after_pieces (length l.initial.marked.tags) (map (λ p. p.now) l.yielded))
