-- Meaning: words of public contracts.
-- The lines that values of the code represent.
use Rattle.bib_syntax.specs.Lines.{LineReading}
use Rattle.bib_syntax.specs.Views.{file_of}
use Rattle.bib_syntax.specs.declared.raw.lines.RawLine.{RawLine}

-- the reading of a line
abbrev pub line_of : RawLine → LineReading
line_of l = record { start = l.span.start; end = l.span.end; blocks = l.blocks.items; says = file_of l.raw }
