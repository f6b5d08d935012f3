use Rattle.std.proofs.Common.{◌≡◌, ◌++◌, drop, map}
use Rattle.std.specs.List.{flat_map}
use Rattle.bib_syntax.specs.Views.{entry_reading_of, field_of}
use Rattle.edit_changes.specs.Renames.{keyless_content, field_content}
use Rattle.edit_changes.proofs.renames.entry_content.Given as goal

-- the content so far, followed by the remaining fields, is the content of the entry
abbrev pub invariant-fields : goal.invariant-fields
invariant-fields l =
    l.content ++ flat_map field_content (map field_of (drop l.field-index l.field-items)) ≡ keyless_content (entry_reading_of l.entry)
