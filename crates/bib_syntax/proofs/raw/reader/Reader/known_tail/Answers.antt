use Rattle.std.proofs.Common.{rules, ◌≤◌, lit<}
use Rattle.bib_syntax.specs.Stretches.{IsMemoOf}
use Rattle.bib_syntax.proofs.StretchFacts.{from_inside}
use Rattle.bib_syntax.proofs.raw.reader.Reader.known_tail.Goals as goal

pub returns : goal.returns
returns c =
    let memo : IsMemoOf c.args.self.now.text c.in_ok-memo.memo.now = search rules in
    let from : c.in_ok-memo.memo.now.tail.start ≤ c.args.self.now.at = search rules in
    let to : c.args.self.now.at ≤ c.in_ok-memo.memo.now.tail.end = search rules in
    from_inside 125 c.args.self.now c.in_ok-memo.memo.now.tail (lit< tt) memo.tail.0 from to (search rules)
