use Rattle.std.proofs.Common.{[], ◌∷◌, refl}
use Rattle.std.proofs.lemmas.Result.{err_from_is_err_and}
use Rattle.bib_syntax.specs.Blocks.{item_of}
use Rattle.bib_syntax.specs.SyntaxErrors.{FileFails as fails}
use Rattle.bib_text.proofs.PlaceFacts.{ahead_here}
use Rattle.bib_syntax.proofs.ErrorFacts.{reports_as}
use Rattle.bib_syntax.proofs.FieldFacts.{refuses_from}
use Rattle.bib_syntax.proofs.FileFacts.{block_smaller}
use Rattle.bib_syntax.proofs.LineReadFacts.{block_span}
use Rattle.bib_syntax.proofs.raw.lines.push_block.Goals as goal

pub returns-in_err-item-clause-fails : goal.returns-in_err-item-clause-fails
returns-in_err-item-clause-fails c =
    let p = err_from_is_err_and c.from_residual.result c.from_residual.ensures.1 in
    rw (p.1, p.2)
    (refuses_from _ _ (ahead_here c.args.s.now) (reports_as (λ kind v f. fails.first f)) c.in_err-item.ensures.fails)

pub returns-clause-found : goal.returns-clause-found
returns-clause-found c = record {
  blocks = record { start = c.cursor-start.result; end = c.cursor.result } ∷ [];
  says = item_of c.in_ok-item.item;
  part = block_span _ _ c.cursor-start.ensures.place c.cursor.ensures.place c.in_ok-item.ensures.found;
  more = block_smaller c.in_ok-item.ensures.found;
  spans = c.in_ok-push.ensures.items;
  content = c.in_ok-add.ensures;
  place = refl;
}
