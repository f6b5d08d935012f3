use Rattle.std.proofs.Common.{sym, ap, ◌∙◌}
use Rattle.std.specs.Prelude.{not}
use Rattle.bib_syntax.specs.Views.{piece_of}
use Rattle.bib_queries.proofs.BalanceFacts.{balance_is}
use Rattle.edit_format.specs.Formatted as styled
use Rattle.edit_format.proofs.BraceFacts.{test_without}
use Rattle.edit_format.proofs.comments.is_unbalanced.Goals as goal

pub returns-then-has_brace : goal.returns-then-has_brace
returns-then-has_brace c =
    ap not (balance_is c.in-Normal.text.now c.is_balanced.result c.is_balanced.ensures)
    ∙ sym (ap (λ v. styled.is_unbalanced (piece_of (record c.args.piece.now { v = v }))) c.in-Normal.is)

pub returns-else-has_brace : goal.returns-else-has_brace
returns-else-has_brace c =
    c.if-has_brace.false ∙ sym (ap not (test_without c.in-Normal.text.now (sym c.has_brace.ensures ∙ c.if-has_brace.false)))
    ∙ sym (ap (λ v. styled.is_unbalanced (piece_of (record c.args.piece.now { v = v }))) c.in-Normal.is)
