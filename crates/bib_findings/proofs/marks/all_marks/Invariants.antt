use Rattle.std.proofs.Common.{◌≡◌, map, take}
use Rattle.bib_syntax.specs.Views.{entry_reading_of}
use Rattle.bib_findings.specs.Duplicates.{entries_at}
use Rattle.bib_findings.specs.Marks.{marks_of}
use Rattle.bib_findings.proofs.marks.all_marks.Given as goal

-- `all` contains the marks of the first entries
abbrev pub invariant-origins : goal.invariant-origins
invariant-origins l = l.all.items ≡ map marks_of (entries_at (map entry_reading_of l.said) (take l.index l.origins))
