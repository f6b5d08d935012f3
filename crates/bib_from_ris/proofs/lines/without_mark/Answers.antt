use Rattle.std.proofs.Common.{rules}
use Rattle.bib_from_ris.proofs.lines.without_mark.Goals as goal

pub returns : goal.returns
unfolding Rattle.bib_from_ris.specs.Lines.text_after_mark lib.Utf8.encode
returns c = search rules
