use Rattle.std.proofs.Common.{◌≡◌, ◌∙◌, ◌++◌, ◌∷◌, [], List, ℕ, map, length, sym, ap, ap₂, append_assoc, lit<}
use Rattle.std.proofs.lemmas.List.{map-append}
use Rattle.std.proofs.lemmas.Iterator.Consumers.{YieldsList-end}
use Rattle.std.proofs.lemmas.Iterator.Splits.{YieldsList-from_str_split}
use Rattle.bib_from_csl.specs.Tags.{open_after_piece, open_after_pieces, pieces_text, tag_piece_text}
use Rattle.bib_from_csl.proofs.TagFacts.{open_after_one_more, pieces_text_one_more}
use Rattle.bib_from_csl.proofs.tags.push_pieces.Goals as goal

pub pieces-preserved : goal.pieces-preserved
pieces-preserved c =
    let first = length c.args.marked.now.tags in
    let text = c.args.marked.now.text in
    let before : List (List ℕ) = map (λ p. p.now) c.pieces.yielded in
    let piece : List ℕ = c.in-Some.piece.now in
    let next : map (λ p. p.now) (c.pieces.yielded ++ c.in-Some.piece ∷ []) ≡ before ++ piece ∷ [] =
    map-append (λ p. p.now) c.pieces.yielded (c.in-Some.piece ∷ []) in (
      c.in_ok-push_piece.ensures.text ∙ ap₂ (λ t n. t ++ tag_piece_text n piece) c.pieces.invariant.0 c.pieces.invariant.1
          ∙ append_assoc text (pieces_text first before) (tag_piece_text (open_after_pieces first before) piece)
          ∙ ap (λ t. text ++ t) (sym (pieces_text_one_more first before piece)) ∙ ap (λ l. text ++ pieces_text first l) (sym next),
      c.in_ok-push_piece.ensures.depth ∙ ap (λ n. open_after_piece n piece) c.pieces.invariant.1
          ∙ sym (open_after_one_more first before piece)
          ∙ ap (open_after_pieces first) (sym next),
    )

pub returns-clause-text : goal.returns-clause-text
returns-clause-text c =
    let all =
    YieldsList-end (YieldsList-from_str_split 60 c.args.text.now (lit< tt) (cc) (cc) (cc)) c.pieces.yielded _
    c.pieces.yielded_by _ _ c.in-None.is c.next.ensures.steps in
    c.pieces.invariant.0 ∙ ap (λ l. c.args.marked.now.text ++ pieces_text (length c.args.marked.now.tags) l) all.0

pub returns-clause-depth : goal.returns-clause-depth
returns-clause-depth c =
    let all =
    YieldsList-end (YieldsList-from_str_split 60 c.args.text.now (lit< tt) (cc) (cc) (cc)) c.pieces.yielded _
    c.pieces.yielded_by _ _ c.in-None.is c.next.ensures.steps in
    c.pieces.invariant.1 ∙ ap (λ l. open_after_pieces (length c.args.marked.now.tags) l) all.0
