use Rattle.std.proofs.Common.{map, ap, ◌∙◌}
use Rattle.std.proofs.lemmas.List.{take_all}
use Rattle.bib_syntax.specs.Views.{piece_of}
use Rattle.edit_strings.specs.Tables.{index_by_lowercase, indexed_back, with_index}
use Rattle.edit_strings.proofs.WrittenFacts.{back_reversed}
use Rattle.edit_strings.proofs.written.with_indices.Goals as goal

pub returns : goal.returns
returns c =
    ap indexed_back c.reverse.ensures.items ∙ back_reversed c.pieces.found.items ∙ c.pieces.invariant
    ∙ ap (λ l. map (with_index (index_by_lowercase c.args.indices.now)) (map piece_of l))
    (take_all c.pieces.piece-index c.args.pieces.now c.pieces-test.false)
