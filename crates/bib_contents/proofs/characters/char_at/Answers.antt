use Rattle.std.proofs.Common.{◌<◌, length, get_or, ◌∙◌, arith}
use Rattle.bib_text.proofs.PlaceFacts.{ascii_here, char_at_prefix}
use Rattle.bib_contents.proofs.characters.char_at.Goals as goal

pub returns-then-byte-lt128 : goal.returns-then-byte-lt128
returns-then-byte-lt128 c =
    let within : c.args.at < length c.args.text.now = omega (arith, c.as_bytes-bytes.ensures.len, c.requires.0, c.if-at-bytes.false) in
    let ascii : get_or c.args.text.now c.args.at 0 < 128 = rw c.as_bytes-bytes.ensures.value at c.if-byte-lt128.true in
    rw c.as_bytes-bytes.ensures.value (_, ascii_here c.args.text.now c.args.at within ascii)

pub returns : goal.returns
returns c =
    char_at_prefix _ c.args.text.now c.args.at c.requires.0 _ _ _ (c.chars.ensures.rest ∙ c.range_from.ensures.value)
    c.next.ensures.steps.0
