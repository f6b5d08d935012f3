use Rattle.std.proofs.Common.{◌≡◌, ◌++◌, None, drop, map}
use Rattle.std.specs.String.{string_bytes}
use Rattle.bib_syntax.specs.Views.{entry_reading_of}
use Rattle.edit_entries.specs.Cuts.{AreEntriesCut}
use Rattle.edit_format.specs.Formatted as styled
use Rattle.edit_format.proofs.formatting.with_entries.Given as goal

-- the text so far and the output for the rest make the output for the whole text
abbrev pub invariant-entries : goal.invariant-entries
invariant-entries l = record {
  written : string_bytes l.new
      ++ styled.rest_in_style l.layout.line_end.now l.layout.style l.blank_lines l.layout.text.now l.at
      (map entry_reading_of (drop l.entry-index l.entries))
      ≡ styled.rest_in_style l.layout.line_end.now l.layout.style None l.layout.text.now 0 (map entry_reading_of l.entries);
  cut : AreEntriesCut l.layout.text.now l.at (map entry_reading_of (drop l.entry-index l.entries));
}
