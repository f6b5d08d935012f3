use Rattle.std.proofs.Common.{◌≡◌, ◌++◌, ◌-◌, List, None, length}
use Rattle.std.specs.Str.{IsCharBoundary}
use Rattle.std.specs.String.{string_bytes}
use Rattle.bib_syntax.specs.EntryReader.{FileRead}
use Rattle.bib_syntax.specs.Reading.{EntryReading, FileReading}
use Rattle.bib_text.specs.Places.{place}
use Rattle.edit_format.specs.Formatted.{rest_in_style}
use Rattle.edit_format.proofs.formatting.format_text.Given as goal

-- the text so far and the output for the rest make the output for the whole text
abbrev pub invariant-entries : goal.invariant-entries
invariant-entries l =
    (l.entries.text ≡ l.text) × (l.at ≡ l.entries.at) × IsCharBoundary l.text l.at
    × ((says : FileReading) × FileRead (place l.text 0) says l.entries
    × ((es : List EntryReading) → string_bytes l.new
    ++ rest_in_style l.layout.line_end.now l.layout.style l.blank_lines l.text l.at es
    ≡ rest_in_style l.layout.line_end.now l.layout.style None l.text 0 (says.entries ++ es)))

abbrev pub decreases-entries : goal.decreases-entries
decreases-entries l = length l.entries.text - l.entries.at
