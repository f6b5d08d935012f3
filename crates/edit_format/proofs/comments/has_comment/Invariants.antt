use Rattle.std.proofs.Common.{◌≡◌, drop, map}
use Rattle.bib_syntax.specs.Views.{entry_reading_of, field_of}
use Rattle.edit_entries.specs.Cuts.{AreGapsCut}
use Rattle.edit_format.specs.Formatted.{has_comment, has_percent_between}
use Rattle.edit_format.proofs.comments.has_comment.Given as goal

-- the entry has a comment exactly if one is in the gaps still to visit
abbrev pub invariant-fields : goal.invariant-fields
invariant-fields l = record {
  left : has_percent_between l.text l.start (map field_of (drop l.field-index l.field-items)) l.entry.span.end
      ≡ has_comment l.text (entry_reading_of l.entry);
  cut : AreGapsCut l.text l.start (map field_of (drop l.field-index l.field-items)) l.entry.span.end;
}
