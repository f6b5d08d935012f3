use Rattle.bib_text.proofs.ScannedFacts.{trimmed_chars}
use Rattle.bib_values.proofs.ranges.after_white.Goals as goal

pub returns : goal.returns
returns c = trimmed_chars c.args.text.now c.trim_start.result.now c.trim_start.utf8 c.trim_start.ensures.trim
