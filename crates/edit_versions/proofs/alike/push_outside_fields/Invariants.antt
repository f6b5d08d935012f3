use Rattle.std.proofs.Common.{◌≡◌, ◌++◌, drop, filter, map}
use Rattle.bib_syntax.specs.Views.{field_of}
use Rattle.edit_versions.specs.Alike.{is_no_layout, outside_fields}
use Rattle.edit_versions.proofs.alike.push_outside_fields.Given as goal

-- the bytes so far, followed by those outside of the remaining fields without layout, are the result
abbrev pub invariant-fields : goal.invariant-fields
invariant-fields l =
    l.kept.items ++ filter is_no_layout (outside_fields l.text l.at (map field_of (drop l.field-index l.fields)) l.end)
    ≡ l.fn.kept.items ++ filter is_no_layout (outside_fields l.text l.fn.start (map field_of l.fields) l.end)
