use Rattle.std.proofs.Common.{rules, ◌<◌, ◌≤◌, length, get_or, arith}
use Rattle.std.specs.Char.{is_whitespace}
use Rattle.bib_text.proofs.PlaceFacts.{ascii_here, stops_at}
use Rattle.bib_text.proofs.UntilFacts.{not_white}
use Rattle.bib_text.proofs.scanner.Scanner.is_at_visible.Goals as goal

pub returns : goal.returns
returns c is =
    let bytes = c.as_bytes.ensures.value in
    let within : c.self.inside.at < length c.self.inside.text.now = search rules in
    let visible = rw (is, bytes) at c.is_ascii_graphic.ensures.cases in
    let low : 33 ≤ get_or c.self.inside.text.now c.self.inside.at 0 = omega (arith, visible) in
    let high : get_or c.self.inside.text.now c.self.inside.at 0 < 127 = omega (arith, visible) in
    rw (← c.self.view_is)
    (stops_at is_whitespace (ascii_here c.self.inside.text.now c.self.inside.at within (omega arith))
    (not_white _ low high))
