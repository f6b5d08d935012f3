use Rattle.std.proofs.Common.{List, drop, ◌++◌}
use Rattle.std.specs.Str.{IsCharBoundary}
use Rattle.bib_syntax.specs.Files.{AreFiles, RecoveredFrom}
use Rattle.bib_syntax.specs.Reading.{FileReading, then}
use Rattle.bib_syntax.specs.Views.{file_of}
use Rattle.bib_syntax.specs.declared.raw.recovery.SkippedBlock.{SkippedBlock}
use Rattle.bib_syntax.proofs.raw.files.JoinedFiles.recover_parts.Given as goal

-- whatever the remaining files contain, the content of all files begins with the content that is found so far
abbrev pub invariant-files : goal.invariant-files
invariant-files l =
    ((says : FileReading) (errors : List SkippedBlock) → RecoveredFrom l.text l.start (drop l.end-index l.end-items) says errors
    → RecoveredFrom l.text 0 l.end-items (then (file_of l.found.raw) says) (l.found.skipped.items ++ errors))
    × AreFiles l.text l.start (drop l.end-index l.end-items) × IsCharBoundary l.text l.start
