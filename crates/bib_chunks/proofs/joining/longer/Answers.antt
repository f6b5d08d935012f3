use Rattle.std.proofs.lemmas.Str.{chars-append}
use Rattle.bib_chunks.proofs.joining.longer.Goals as goal

pub returns : goal.returns
returns c =
    let text = rw c.as_str-text.ensures at c.as_str-text.utf8 in
    rw c.in_ok-push_str.ensures (chars-append c.args.text c.args.more.now text)
