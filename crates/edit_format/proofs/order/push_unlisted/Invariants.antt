use Rattle.std.proofs.Common.{◌≡◌, ◌++◌, drop, map}
use Rattle.std.specs.List.{AllByRecursion, flat_map}
use Rattle.std.specs.String.{string_bytes}
use Rattle.bib_syntax.specs.Views.{field_of}
use Rattle.edit_entries.specs.Cuts.{ArePiecesCut}
use Rattle.edit_format.specs.Formatted.{field_laid_out}
use Rattle.edit_format.specs.Unlisted.{name_texts, unlisted}
use Rattle.edit_format.proofs.order.push_unlisted.Given as goal

-- the text so far, and that of the fields still to visit that have none of the names, make the text of all fields without these names
abbrev pub invariant-fields : goal.invariant-fields
invariant-fields l = record {
  written : string_bytes l.new
      ++ flat_map (field_laid_out l.layout.line_end.now l.layout.style l.layout.text.now l.width)
      (unlisted (name_texts l.names) (map field_of (drop l.field-index l.fields)))
      ≡ string_bytes l.initial.new
      ++ flat_map (field_laid_out l.layout.line_end.now l.layout.style l.layout.text.now l.width)
      (unlisted (name_texts l.names) (map field_of l.fields));
  cut : AllByRecursion (ArePiecesCut l.layout.text.now) (map field_of (drop l.field-index l.fields));
}
