use Rattle.std.proofs.Common.{◌≡◌, ◌++◌, drop}
use Rattle.bib_from_ris.specs.Lines.{no_line}
use Rattle.bib_from_ris.specs.Sections.{section_with, sections_after}
use Rattle.bib_from_ris.proofs.sections.sections_of.Given as goal

abbrev pub invariant-lines : goal.invariant-lines
invariant-lines l =
    l.sections ++ sections_after l.section (drop l.line-index l.lines) ≡ sections_after (section_with no_line) l.lines
