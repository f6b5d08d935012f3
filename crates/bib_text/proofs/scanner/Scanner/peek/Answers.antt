use Rattle.std.proofs.Common.{◌<◌, length, get_or, arith}
use Rattle.bib_text.proofs.PlaceFacts.{ascii_here}
use Rattle.bib_text.proofs.scanner.Scanner.peek.Goals as goal

pub returns-then-byte-lt128 : goal.returns-then-byte-lt128
returns-then-byte-lt128 c =
    let within : c.self.inside.at < length c.self.inside.text.now = omega (arith, c.as_bytes-bytes.ensures.len, c.self.invariant.1.0) in
    let ascii : get_or c.self.inside.text.now c.self.inside.at 0 < 128 = rw c.as_bytes-bytes.ensures.value at c.if-byte-lt128.true in
    rw (← c.self.view_is, c.as_bytes-bytes.ensures.value) (_, ascii_here c.self.inside.text.now c.self.inside.at within ascii)
