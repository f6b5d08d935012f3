use Rattle.bib_text.proofs.UntilFacts.{until_byte}
use Rattle.bib_text.proofs.scanner.Scanner.eat_until_byte.Goals as goal

pub returns-clause-longest : goal.returns-clause-longest
returns-clause-longest c =
    rw (c.eat_bytes.ensures.reached, ← c.self.view_is)
    (until_byte c.args.end c.requires.ascii _ _ c.self.invariant.0 c.self.invariant.1 c.memchr.result
    c.unwrap_or-count.result (rw (c.as_bytes-ahead.ensures.value, c.range_from.ensures.value) at c.memchr.ensures)
    (rw (c.as_bytes-ahead.ensures.value, c.range_from.ensures.value) at c.unwrap_or-count.ensures)).longest

pub returns-clause-stopped : goal.returns-clause-stopped
returns-clause-stopped c =
    rw (c.eat_bytes.ensures.reached, ← c.self.view_is)
    (until_byte c.args.end c.requires.ascii _ _ c.self.invariant.0 c.self.invariant.1 c.memchr.result
    c.unwrap_or-count.result (rw (c.as_bytes-ahead.ensures.value, c.range_from.ensures.value) at c.memchr.ensures)
    (rw (c.as_bytes-ahead.ensures.value, c.range_from.ensures.value) at c.unwrap_or-count.ensures)).stopped
