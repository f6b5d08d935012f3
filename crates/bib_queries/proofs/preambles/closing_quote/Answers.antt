use Rattle.std.proofs.Common.{◌∙◌, sym, arith}
use Rattle.bib_queries.proofs.PreambleFacts.{closed_at, open_at, past_end}
use Rattle.bib_queries.proofs.preambles.closing_quote.Goals as goal

pub bytes-init : goal.bytes-init
bytes-init c = λ inside rest hidden is. (omega arith, hidden)

pub returns-then-is_close-clause-found : goal.returns-then-is_close-clause-found
returns-then-is_close-clause-found c = λ inside rest hidden is.
    closed_at c.as_bytes-bytes.result.now inside rest c.bytes.is_hidden c.bytes.at (c.as_bytes-bytes.ensures.value ∙ is)
    (sym c.is_close.ensures ∙ c.if-is_close.true)
    (c.bytes.invariant inside rest hidden is)

pub bytes-preserved : goal.bytes-preserved
bytes-preserved c = λ inside rest hidden is.
    open_at c.as_bytes-bytes.result.now inside rest c.bytes.is_hidden c.hides_next-is_hidden.result c.bytes.at
    (c.as_bytes-bytes.ensures.value ∙ is)
    (sym c.is_close.ensures ∙ c.if-is_close.false) c.hides_next-is_hidden.ensures (c.bytes.invariant inside rest hidden is)

pub returns-clause-found : goal.returns-clause-found
returns-clause-found c = λ inside rest hidden is.
    past_end c.args.text.now inside rest c.bytes.at is (omega arith) (c.bytes.invariant inside rest hidden is).0
