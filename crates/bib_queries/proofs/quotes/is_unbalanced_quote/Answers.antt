use Rattle.std.proofs.Common.{◌≡◌, ◌-◌, true, sym, ap, ◌∙◌}
use Rattle.std.specs.Prelude.{◌&&◌, not}
use Rattle.bib_syntax.specs.Views.{piece_of}
use Rattle.bib_queries.specs.Balance.{is_balanced}
use Rattle.bib_queries.specs.Quotes as spec
use Rattle.bib_queries.specs.Bytes.{has_byte_at}
use Rattle.bib_queries.proofs.BalanceFacts.{balance_is}
use Rattle.bib_queries.proofs.quotes.is_unbalanced_quote.Goals as goal

pub returns-then-has_byte : goal.returns-then-has_byte
returns-then-has_byte c =
    let text = c.args.text.now in
    let own = c.in-Normal.own.now in
    let quoted : has_byte_at text (c.args.piece.now.span.start - 1) 34 ≡ true =
    ap (λ n. has_byte_at text n 34) (sym c.saturating_sub.ensures) ∙ sym c.has_byte.ensures.is ∙ c.if-has_byte.true in
    ap not (balance_is own c.is_balanced.result c.is_balanced.ensures)
    ∙ sym (ap (λ b. b && not (is_balanced own)) quoted)
    ∙ sym (ap (λ v. spec.is_unbalanced_quote text (piece_of (record c.args.piece.now { v = v }))) c.in-Normal.is)
