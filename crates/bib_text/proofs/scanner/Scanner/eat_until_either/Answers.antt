use Rattle.bib_text.proofs.UntilFacts.{until_either}
use Rattle.bib_text.proofs.scanner.Scanner.eat_until_either.Goals as goal
use Rattle.bib_text.proofs.scanner.Scanner.eat_until_either.Goals.{After-eat_bytes}

pub returns-clause-longest : goal.returns-clause-longest
returns-clause-longest c =
    let found = rw (c.as_bytes-ahead.ensures.value, c.range_from.ensures.value) at c.before_either-count.ensures in
    rw (c.eat_bytes.ensures.reached, ← c.self.view_is)
    (until_either c.args.a c.args.b c.requires.ascii _ _ c.self.invariant.0 c.self.invariant.1 found.0
    c.before_either-count.result found.1 found.2).longest

pub returns-clause-stopped : goal.returns-clause-stopped
returns-clause-stopped c =
    let found = rw (c.as_bytes-ahead.ensures.value, c.range_from.ensures.value) at c.before_either-count.ensures in
    rw (c.eat_bytes.ensures.reached, ← c.self.view_is)
    (until_either c.args.a c.args.b c.requires.ascii _ _ c.self.invariant.0 c.self.invariant.1 found.0
    c.before_either-count.result found.1 found.2).stopped
