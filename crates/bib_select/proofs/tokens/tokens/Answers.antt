use Rattle.std.proofs.lemmas.List.{map-append}
use Rattle.std.proofs.lemmas.Result.{err_from_is_err_and}
use Rattle.bib_select.specs.Views.{placed_of}
use Rattle.bib_select.proofs.TokenFacts.{next_smaller, tokens_end, tokens_more, tokens_refused}
use Rattle.bib_select.proofs.tokens.tokens.Goals as goal

pub returns-in_err-placed-clause-refused : goal.returns-in_err-placed-clause-refused
returns-in_err-placed-clause-refused c =
    let p = err_from_is_err_and c.from_residual.result c.from_residual.ensures.1 in
    rw (p.1, p.2) (tokens_refused _ _ c.tokens.invariant c.in_err-placed.ensures)

pub tokens-smaller : goal.tokens-smaller
tokens-smaller c = next_smaller (placed_of c.in-Some.placed) (rw c.in-Some.is at c.in_ok-placed.ensures)

pub tokens-preserved : goal.tokens-preserved
tokens-preserved c =
    rw (c.in_ok-push.ensures.items, map-append placed_of _ _)
    (tokens_more _ (placed_of c.in-Some.placed) c.tokens.invariant (rw c.in-Some.is at c.in_ok-placed.ensures))

pub returns-clause-found : goal.returns-clause-found
returns-clause-found c = tokens_end c.next_token.new.s _ c.tokens.invariant (rw c.in_default.is at c.in_ok-placed.ensures)
