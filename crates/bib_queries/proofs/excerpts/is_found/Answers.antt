use Rattle.std.proofs.Common.{◌∙◌, ◌&&◌, map, ap, sym}
use Rattle.std.specs.List.{list_any}
use Rattle.bib_text.proofs.ListFacts.{any_mapped}
use Rattle.bib_syntax.specs.Views.{piece_of}
use Rattle.bib_queries.specs.Answers.{has_part, piece_text}
use Rattle.bib_queries.proofs.excerpts.is_found.Goals as goal

pub returns-then-is_name : goal.returns-then-is_name
returns-then-is_name c =
    let part = c.args.search.now.part.now in
    let pieces = c.args.field.now.value.v.items in
    c.is_in_value.ensures ∙ ap (list_any (λ piece. has_part part (piece_text (piece_of piece)))) c.deref.ensures.value
    ∙ sym (any_mapped piece_of (λ piece. has_part part (piece_text piece)) pieces)
    ∙ ap (λ b. b && list_any (λ piece. has_part part (piece_text piece)) (map piece_of pieces)) (sym c.if-is_name.true ∙ c.is_name.ensures)
