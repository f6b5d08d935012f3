use Rattle.std.specs.Prelude.{string_bytes}
use Rattle.bib.proofs.Answers.{quoted_line}
use Rattle.bib.proofs.run.quoting_line.Goals as goal

pub returns : goal.returns
returns c =
    quoted_line c.format-2.result (c.args.words.now, c.args.name.now) c.args.span.now
    (string_bytes c.in_ok-quoted.quoted) c.in_ok-quoted.ensures.ok
    (rw (← c.as_str.ensures.value) c.format-2.ensures.ok)
