use Rattle.std.proofs.Common.{rules, ◌≤◌, ◌<◌, lit<, length, subst, sym}
use Rattle.bib_syntax.specs.Stretches.{IsMemoOf, IsStretch}
use Rattle.bib_syntax.proofs.StretchFacts.{from_inside}
use Rattle.bib_syntax.proofs.raw.reader.Reader.known_line.Goals as goal

pub returns : goal.returns
returns c =
    let memo : IsMemoOf c.args.self.now.text c.in_ok-memo.memo.now = search rules in
    let below : c.in_ok-index.index < length c.in_ok-memo.memo.now.lines.items = search rules in
    let line : IsStretch 10 c.args.self.now.text c.index.result.now =
    subst (IsStretch 10 c.args.self.now.text) (sym c.index.ensures)
    (memo.lines c.in_ok-index.index c.index.result.now below) in
    let from : c.index.result.now.start ≤ c.args.self.now.at = search rules in
    let to : c.args.self.now.at ≤ c.index.result.now.end = search rules in
    from_inside 10 c.args.self.now c.index.result.now (lit< tt) line from to (search rules)
